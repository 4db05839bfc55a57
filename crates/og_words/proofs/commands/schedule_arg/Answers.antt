use Rattle.std.proofs.Common.{codes}
use Rattle.std.proofs.lemmas.Result.{IfOk-weaker}
use Rattle.og_words.specs.CommandLine as line
use Rattle.og_words.proofs.commands.schedule_arg.Goals as goal

pub returns : goal.returns
returns c =
    let apart = c.in_ok-without.ensures (line.option (codes "schedule")) c.option_arg-schedule.ensures in
    IfOk-weaker c.without-2.result _ _ (λ r h. h line.schedule_option apart) c.without-2.ensures
