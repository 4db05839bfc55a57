use Rattle.std.proofs.Common.{◌≡◌, ℕ, ◌<◌}
use Rattle.std.specs.Prelude.{bit_and, slice_index}
use Rattle.og_cond.proofs.varset.VarSet.meets.Given as goal

abbrev pub invariant-loop-k : goal.invariant-loop-k
invariant-loop-k l = (i : ℕ) → i < l.k → bit_and (slice_index l.self.words i) (slice_index l.other.words i) ≡ 0
