use Rattle.std.proofs.Common.{◌≡◌}
use Rattle.og_run.proofs.threads.RunJob.work.Given as goal

abbrev pub invariant-loop : goal.invariant-loop
invariant-loop g l = (l.seat.process ≡ l.initial.seat.process) × (l.seat.card.given ≡ l.initial.seat.card.given)
