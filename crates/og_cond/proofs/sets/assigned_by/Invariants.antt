use Rattle.std.proofs.Common.{◌≡◌, ℕ, ◌||◌, drop, map}
use Rattle.og_typed.specs.Plain.{simple}
use Rattle.og_cond.specs.Sets.{has, changes}
use Rattle.og_cond.proofs.sets.assigned_by.Given as goal

abbrev pub invariant-loop-basic : goal.invariant-loop-basic
invariant-loop-basic l = (x : ℕ) → (changes (map simple (drop l.basic-index l.body)) x || has l.set x) ≡ changes (map simple l.body) x
