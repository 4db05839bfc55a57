-- A test of each form of an assertion.
use Rattle.std.specs.Prelude.{Bool, true, ◌&&◌}
use Rattle.og_linear.specs.Linear.{FormValue}
use Rattle.og_typed.specs.Syntax.{Formula, True, False, Le, Eq, Ne, Not, And, Or, Imp, Formulas, none, more}

-- each form of the assertion passes the test
abbrev mutual
  pub each_form : (FormValue → Bool) → Formula → Bool
  each_form test True = true
  each_form test False = true
  each_form test (Le f) = test f
  each_form test (Eq f) = test f
  each_form test (Ne f) = test f
  each_form test (Not a) = each_form test a
  each_form test (And all) = each_form_in test all
  each_form test (Or all) = each_form_in test all
  each_form test (Imp a b) = each_form test a && each_form test b

  pub each_form_in : (FormValue → Bool) → Formulas → Bool
  each_form_in test none = true
  each_form_in test (more a rest) = each_form test a && each_form_in test rest
