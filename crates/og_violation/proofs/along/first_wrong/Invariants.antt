use Rattle.std.proofs.Common.{ℕ, ◌<◌, take}
use Rattle.og_violation.specs.Along.{IsTrueAfter}
use Rattle.og_violation.specs.Replays.{IsAfterRun}
use Rattle.og_violation.proofs.along.first_wrong.Given as goal

abbrev pub invariant-loop-k : goal.invariant-loop-k
invariant-loop-k l = record {
  after : IsAfterRun l.outline l.values (take l.k l.history) l.moment;
  before : (j : ℕ) → j < l.k → IsTrueAfter l.outline l.values (take j l.history);
}
