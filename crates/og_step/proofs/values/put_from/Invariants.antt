use Rattle.std.proofs.Common.{◌≡◌, ℕ, ◌+◌, ◌<◌, length}
use Rattle.og_linear.specs.Linear.{value_at}
use Rattle.og_step.proofs.values.put_from.Given as goal

abbrev pub invariant-loop-x : goal.invariant-loop-x
invariant-loop-x l = record {
  long : length l.state ≡ length l.fn.state;
  put : (k : ℕ) → k < l.x → value_at l.state (l.from + k) ≡ value_at l.values k;
  before : (k : ℕ) → k < l.from → value_at l.state k ≡ value_at l.fn.state k;
}
