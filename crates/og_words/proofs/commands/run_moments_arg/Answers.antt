use Rattle.std.proofs.lemmas.Result.{IfOk-weaker}
use Rattle.og_words.specs.CommandLine as line
use Rattle.og_words.proofs.commands.run_moments_arg.Goals as goal

pub returns : goal.returns
returns c = IfOk-weaker c.beside.result _ _ (λ r h. h line.runs_limit c.runs_limit_arg.ensures) c.beside.ensures
