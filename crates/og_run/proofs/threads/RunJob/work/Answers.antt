use Rattle.std.proofs.Common.{◌∙◌}
use Rattle.og_run.proofs.Ending.{end_act}
use Rattle.og_run.proofs.threads.RunJob.work.Goals as goal

pub returns-in-Done-clause-gain : goal.returns-in-Done-clause-gain
returns-in-Done-clause-gain g c =
    (c.act.ensures.process ∙ c.loop.invariant.0, c.act.ensures.act.0 ∙ c.loop.invariant.1, end_act c.act.result c.loop.seat.process c.loop.seat.card c.act.new.seat c.act.ensures.act c.in-Done.is c.act.ensures.process)
