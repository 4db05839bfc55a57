use Rattle.std.proofs.Common.{codes}
use Rattle.std.proofs.lemmas.Result.{IfOk-weaker}
use Rattle.og_words.specs.CommandLine as line
use Rattle.og_words.proofs.commands.no_runs_arg.Goals as goal

pub returns : goal.returns
returns c =
    let apart = c.in_ok-without.ensures (line.flag (codes "no-runs")) c.flag_arg-no_runs.ensures in
    IfOk-weaker c.without-2.result _ _ (λ r h. h line.no_runs_flag apart) c.without-2.ensures
