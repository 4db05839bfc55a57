use Rattle.std.proofs.Common.{◌≡◌, ℕ, ◌≤◌, ◌++◌, List, Some, vec_len, length}
use Rattle.std.specs.Prelude.{slice_get}
use Rattle.og_run.specs.Cards.{Place, CardFits}
use Rattle.og_run.proofs.threads.settle.Given as goal

abbrev pub invariant-loop-seat : goal.invariant-loop-seat
invariant-loop-seat g l = record {
  same : l.locked ≡ l.initial.locked;
  front : (rest : List Place) × (l.fn.seats.items ≡ l.seats.items ++ rest);
  fits : (k : ℕ) (s : Place) → length l.seats.items ≤ k → slice_get l.fn.seats.items k ≡ Some s → CardFits l.locked.given l.locked.history l.locked.halted s.process s.card;
}

abbrev pub decreases-loop-seat : goal.decreases-loop-seat
decreases-loop-seat g l = vec_len l.seats
