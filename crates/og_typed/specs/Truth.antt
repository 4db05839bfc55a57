-- When an assertion is true, and which variables occur in it.
use Rattle.std.specs.Prelude.{ℤ, pos, List, Bool, true, false, not, ◌&&◌, ◌||◌, int_le}
use Rattle.std.specs.Ordering.{int_eq}
use Rattle.og_linear.specs.Linear.{val}
use Rattle.og_typed.specs.Syntax.{Formula, True, False, Le, Eq, Ne, Not, And, Or, Imp, Formulas, none, more}

abbrev mutual
  pub truth : Formula → List ℤ → Bool
  truth True s = true
  truth False s = false
  truth (Le f) s = int_le (val f s) (pos 0)
  truth (Eq f) s = int_eq (val f s) (pos 0)
  truth (Ne f) s = not (int_eq (val f s) (pos 0))
  truth (Not a) s = not (truth a s)
  truth (And all) s = all_true all s
  truth (Or all) s = some_true all s
  truth (Imp a b) s = not (truth a s) || truth b s

  pub all_true : Formulas → List ℤ → Bool
  all_true none s = true
  all_true (more a rest) s = truth a s && all_true rest s

  pub some_true : Formulas → List ℤ → Bool
  some_true none s = false
  some_true (more a rest) s = truth a s || some_true rest s
