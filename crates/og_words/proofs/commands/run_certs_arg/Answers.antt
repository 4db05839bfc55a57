use Rattle.std.proofs.Common.{codes}
use Rattle.std.proofs.lemmas.Result.{IfOk-weaker}
use Rattle.og_words.specs.CommandLine as line
use Rattle.og_words.proofs.commands.run_certs_arg.Goals as goal

pub returns : goal.returns
returns c = IfOk-weaker c.without.result _ _ (λ r h. h (line.option (codes "certs")) c.option_arg.ensures) c.without.ensures
