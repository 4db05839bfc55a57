-- The conjuncts of an assertion, and which of them are printed.
use Rattle.std.specs.Prelude.{ℕ, nat_lt, length, ◌==◌, List, [], ◌∷◌, ◌++◌, Bool, if◌then◌else◌, codes}
use Rattle.std.specs.List.{list_any}
use Rattle.og_typed.specs.Syntax.{Formula, True, False, Le, Eq, Ne, Not, And, Or, Imp, Formulas, none, more}
use Rattle.og_typed.specs.Occurs.{occurs}
use Rattle.og_report_text.specs.Places.{◌&◌}
use Rattle.og_report_text.specs.Assertions.{assertion_text, operand_text}
use Rattle.og_report_text.specs.Values.{names_text}

-- of a conjunction, also those of the conjunctions in it; else the assertion alone
abbrev mutual
  pub conjuncts : Formula → List Formula
  conjuncts True = True ∷ []
  conjuncts False = False ∷ []
  conjuncts (Le f) = Le f ∷ []
  conjuncts (Eq f) = Eq f ∷ []
  conjuncts (Ne f) = Ne f ∷ []
  conjuncts (Not a) = Not a ∷ []
  conjuncts (And all) = conjuncts_in all
  conjuncts (Or all) = Or all ∷ []
  conjuncts (Imp a b) = Imp a b ∷ []

  pub conjuncts_in : Formulas → List Formula
  conjuncts_in none = []
  conjuncts_in (more a rest) = conjuncts a ++ conjuncts_in rest

-- one of the variables occurs in it
abbrev pub speaks_of : List ℕ → Formula → Bool
speaks_of vars a = list_any (λ x. occurs x a) vars

-- those in which one of the variables occurs
abbrev pub chosen : List ℕ → List Formula → List Formula
chosen vars [] = []
chosen vars (a ∷ rest) = if speaks_of vars a then a ∷ chosen vars rest else chosen vars rest

module _ (names : List (List ℕ)) where
  -- conjuncts with `and` between two; this stands before the first
  abbrev pub conjuncts_text : List ℕ → List Formula → List ℕ
  conjuncts_text opening [] = []
  conjuncts_text opening (a ∷ rest) = (opening & operand_text names 2 a) & conjuncts_text (codes " and ") rest

  -- nothing is said of these variables
  abbrev pub nothing_text : List ℕ → List ℕ
  nothing_text vars = if length vars == 0 then codes ".." else codes "nothing about " & names_text names [] vars

  -- of all conjuncts those that are printed for these variables
  abbrev pub chosen_text : List ℕ → List Formula → List Formula → List ℕ
  chosen_text vars all chosen_ones =
      if length chosen_ones == 0 then nothing_text vars
      else conjuncts_text [] chosen_ones & (if nat_lt (length chosen_ones) (length all) then codes " and .." else [])

  -- of a conjunction the part about these variables, of any other assertion all
  abbrev pub known_text : List ℕ → Formula → List ℕ
  known_text vars True = assertion_text names True
  known_text vars False = assertion_text names False
  known_text vars (Le f) = assertion_text names (Le f)
  known_text vars (Eq f) = assertion_text names (Eq f)
  known_text vars (Ne f) = assertion_text names (Ne f)
  known_text vars (Not a) = assertion_text names (Not a)
  known_text vars (And all) = chosen_text vars (conjuncts_in all) (chosen vars (conjuncts_in all))
  known_text vars (Or all) = assertion_text names (Or all)
  known_text vars (Imp a b) = assertion_text names (Imp a b)
