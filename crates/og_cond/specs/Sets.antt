-- Sets of variables below 256, one bit each.
use Rattle.std.specs.Prelude.{ℕ, ◌/◌, ◌%◌, ◌==◌, ◌||◌, ◌&&◌, Bool, false, List, [], ◌∷◌, slice_index, nat_lt}
use Rattle.std.specs.Int.{bit_at}
use Rattle.og_typed.specs.Syntax.{Formula, Simple, Pass, Set}
use Rattle.og_typed.specs.Occurs.{occurs}
use Rattle.og_cond.specs.declared.varset.VarSet.{VarSet}

-- the variable is in the set
abbrev pub has : VarSet → ℕ → Bool
has set x = bit_at (slice_index set.words (x / 64)) (x % 64) == 1

-- the variable is below 256 and occurs in the assertion
abbrev pub watches : Formula → ℕ → Bool
watches a x = nat_lt x 256 && occurs x a

-- the variable is below 256 and assigned
abbrev pub changes : List Simple → ℕ → Bool
changes [] x = false
changes (Pass ∷ rest) x = changes rest x
changes (Set y e ∷ rest) x = x == y && nat_lt y 256 || changes rest x

-- some variable that is assigned passes the test
abbrev pub assigns_some : (ℕ → Bool) → List Simple → Bool
assigns_some test [] = false
assigns_some test (Pass ∷ rest) = assigns_some test rest
assigns_some test (Set x e ∷ rest) = test x || assigns_some test rest
