-- Which variables occur in an assertion, and whether an action assigns one of them.
use Rattle.std.specs.Prelude.{ℕ, Bool, false, ◌||◌}
use Rattle.og_linear.specs.Linear.{is_term}
use Rattle.og_typed.specs.Syntax.{Formula, True, False, Le, Eq, Ne, Not, And, Or, Imp, Formulas, none, more, Simple, Pass, Set}
use Rattle.std.specs.Prelude.{ℕ, List, [], ◌∷◌, Bool, false, ◌||◌}

-- the variable x occurs in the assertion
abbrev mutual
  pub occurs : ℕ → Formula → Bool
  occurs x True = false
  occurs x False = false
  occurs x (Le f) = is_term x f.terms
  occurs x (Eq f) = is_term x f.terms
  occurs x (Ne f) = is_term x f.terms
  occurs x (Not a) = occurs x a
  occurs x (And all) = occurs_in x all
  occurs x (Or all) = occurs_in x all
  occurs x (Imp a b) = occurs x a || occurs x b

  pub occurs_in : ℕ → Formulas → Bool
  occurs_in x none = false
  occurs_in x (more a rest) = occurs x a || occurs_in x rest

-- some variable that is assigned occurs in the assertion
abbrev pub touches : List Simple → Formula → Bool
touches [] a = false
touches (Pass ∷ rest) a = touches rest a
touches (Set x e ∷ rest) a = occurs x a || touches rest a
