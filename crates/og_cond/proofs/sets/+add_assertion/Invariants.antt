use Rattle.std.proofs.Common.{◌≡◌, ℕ, ◌&&◌, ◌||◌, drop, map}
use Rattle.std.specs.Prelude.{nat_lt}
use Rattle.og_typed.specs.Lists.{formula_list}
use Rattle.og_typed.specs.Plain.{formula}
use Rattle.og_typed.specs.Occurs.{occurs_in}
use Rattle.og_cond.specs.Sets.{has, watches}
use Rattle.og_cond.proofs.sets.+add_assertion.Given as goal

abbrev pub invariant-loop-a : goal.invariant-loop-a
invariant-loop-a l = (x : ℕ) → (nat_lt x 256 && occurs_in x (formula_list (map formula (drop l.a-index l.a-items))) || has l.set x) ≡ (watches (formula l.assertion) x || has l.initial.set x)

abbrev pub invariant-loop-a-2 : goal.invariant-loop-a-2
invariant-loop-a-2 l = (x : ℕ) → (nat_lt x 256 && occurs_in x (formula_list (map formula (drop l.a-index l.a-items))) || has l.set x) ≡ (watches (formula l.assertion) x || has l.initial.set x)
