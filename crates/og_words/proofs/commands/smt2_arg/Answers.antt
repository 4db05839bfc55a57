use Rattle.std.proofs.Common.{codes}
use Rattle.std.proofs.lemmas.Result.{IfOk-weaker}
use Rattle.og_words.specs.CommandLine as line
use Rattle.og_words.proofs.commands.smt2_arg.Goals as goal

pub returns : goal.returns
returns c = IfOk-weaker c.without.result _ _ (λ r h. h (line.flag (codes "smt2")) c.flag_arg.ensures) c.without.ensures
