use Rattle.std.proofs.Common.{ℕ, ◌<◌}
use Rattle.og_violation.specs.Replays.{IsTrueOf}
use Rattle.og_violation.proofs.moments.first_false.Given as goal

abbrev pub invariant-loop-q : goal.invariant-loop-q
invariant-loop-q l = (k : ℕ) → k < l.q → IsTrueOf l.outline l.moment.moment k
