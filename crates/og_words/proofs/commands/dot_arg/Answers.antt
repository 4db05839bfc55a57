use Rattle.std.proofs.Common.{codes}
use Rattle.std.proofs.lemmas.Result.{IfOk-weaker}
use Rattle.og_words.specs.CommandLine as line
use Rattle.og_words.proofs.commands.dot_arg.Goals as goal

pub returns : goal.returns
returns c = IfOk-weaker c.without.result _ _ (λ r h. h (line.flag (codes "dot")) c.flag_arg.ensures) c.without.ensures
