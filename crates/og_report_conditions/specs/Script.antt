-- Conditions as a script in SMT-LIB: a condition is true exactly where its check answers `unsat`.
use Rattle.std.specs.Prelude.{ℕ, suc, ℤ, pos, negsuc, List, [], ◌∷◌, slice_get, codes}
use Rattle.std.specs.Fmt.{decimal}
use Rattle.og_linear.specs.Linear.{Terms, FormValue}
use Rattle.og_typed.specs.Syntax.{Formula, True, False, Le, Eq, Ne, Not, And, Or, Imp, Formulas, none, more, Simple, Pass, Set}
use Rattle.og_cond.specs.Condition.{Condition, Part, Yes, No, Hypothesis, Is, Starts, OneOf, Goal, Holds, Fits, Never, assignments}
use Rattle.og_report_text.specs.Places.{◌&◌}
use Rattle.og_report_text.specs.Listing.{name_text, header_text}

-- the logic, and what an i64 is
unfoldable pub prelude_text : List ℕ
prelude_text = codes "(set-logic QF_LIA)\n(define-fun i64 ((v Int)) Bool (<= (- 9223372036854775808) v 9223372036854775807))\n"

-- the end of a condition
unfoldable pub ending_text : List ℕ
ending_text = codes "))\n(check-sat)\n(pop 1)\n"

-- ---- terms

abbrev pub number_text : ℤ → List ℕ
number_text (pos n) = decimal n
number_text (negsuc n) = codes "(- " & decimal (suc n) & codes ")"

module _ (names : List (List ℕ)) where
  -- no symbol of SMT-LIB's begins with `$`
  abbrev pub variable_text : ℕ → List ℕ
  variable_text x = codes "$" & name_text (slice_get names x)

  abbrev pub term_text : ℕ → ℤ → List ℕ
  term_text x c = codes " (* " & number_text c & codes " " & variable_text x & codes ")"

  abbrev pub terms_text : Terms → List ℕ
  terms_text [] = []
  terms_text (t ∷ ts) = term_text t.0 t.1 & terms_text ts

  abbrev pub form_text : FormValue → List ℕ
  form_text f = codes "(+ 0 " & number_text f.constant & terms_text f.terms & codes ")"

  -- ---- assertions

  abbrev mutual
    pub formula_text : Formula → List ℕ
    formula_text True = codes "true"
    formula_text False = codes "false"
    formula_text (Le f) = codes "(<= " & form_text f & codes " 0)"
    formula_text (Eq f) = codes "(= " & form_text f & codes " 0)"
    formula_text (Ne f) = codes "(not (= " & form_text f & codes " 0))"
    formula_text (Not a) = codes "(not " & formula_text a & codes ")"
    formula_text (And all) = codes "(and true true" & formulas_text all & codes ")"
    formula_text (Or all) = codes "(or false false" & formulas_text all & codes ")"
    formula_text (Imp a b) = codes "(=> " & formula_text a & codes " " & formula_text b & codes ")"

    pub formulas_text : Formulas → List ℕ
    formulas_text none = []
    formulas_text (more a rest) = codes " " & formula_text a & formulas_text rest

  -- ---- hypotheses

  abbrev pub part_text : Part → List ℕ
  part_text (Yes a) = formula_text a
  part_text (No a) = codes "(not " & formula_text a & codes ")"

  abbrev pub parts_text : List Part → List ℕ
  parts_text [] = []
  parts_text (p ∷ ps) = codes " " & part_text p & parts_text ps

  abbrev pub choices_text : List (List Part) → List ℕ
  choices_text [] = []
  choices_text (c ∷ cs) = codes " (and true true" & parts_text c & codes ")" & choices_text cs

  abbrev pub hypothesis_text : Hypothesis → List ℕ
  hypothesis_text (Is p) = part_text p
  hypothesis_text (Starts x v) = codes "(= " & variable_text x & codes " " & number_text v & codes ")"
  hypothesis_text (OneOf cs) = codes "(or false false" & choices_text cs & codes ")"

  abbrev pub hypotheses_lines : List Hypothesis → List ℕ
  hypotheses_lines [] = []
  hypotheses_lines (h ∷ hs) = codes "(assert " & hypothesis_text h & codes ")\n" & hypotheses_lines hs

  -- ---- goals

  abbrev pub range_text : ℕ → List ℕ
  range_text x = codes "(i64 " & variable_text x & codes ")"

  -- a variable bound anew
  abbrev pub bound_text : ℕ → FormValue → List ℕ
  bound_text x e = codes "(let ((" & variable_text x & codes " " & form_text e & codes ")) "

  -- and in range
  unfoldable pub ranged_text : ℕ → FormValue → List ℕ
  ranged_text x e = bound_text x e & codes "(and " & range_text x & codes " "

  -- what holds after the assignments, in order
  abbrev pub after_text : List Simple → List ℕ → List ℕ
  after_text [] goal = goal
  after_text (Pass ∷ rest) goal = after_text rest goal
  after_text (Set x e ∷ rest) goal = bound_text x e & after_text rest goal & codes ")"

  -- each value that is assigned is in range
  abbrev pub fits_text : List Simple → List ℕ
  fits_text [] = codes "true"
  fits_text (Pass ∷ rest) = fits_text rest
  fits_text (Set x e ∷ rest) = ranged_text x e & fits_text rest & codes "))"

  abbrev pub goal_text : List Simple → Goal → List ℕ
  goal_text body (Holds a) = after_text body (formula_text a)
  goal_text body Fits = fits_text body
  goal_text body Never = codes "false"

  -- ---- conditions

  abbrev pub asked_lines : Condition → List ℕ
  asked_lines c = codes "(assert (not " & goal_text (assignments c.action) c.goal & ending_text

  abbrev pub condition_lines : List ℕ → ℕ → Condition → List ℕ
  condition_lines source n c = codes "(push 1)\n; " & header_text source n c & hypotheses_lines c.hypotheses & asked_lines c

  -- ---- the opening

  abbrev pub declared_line : ℕ → List ℕ
  declared_line x = codes "(declare-const " & variable_text x & codes " Int)\n"

  abbrev pub range_line : ℕ → List ℕ
  range_line x = codes "(assert " & range_text x & codes ")\n"

  abbrev pub variable_lines : ℕ → List ℕ
  variable_lines x = declared_line x & range_line x

  -- this many variables, numbered on
  abbrev pub variables_lines : ℕ → List (List ℕ) → List ℕ
  variables_lines x [] = []
  variables_lines x (name ∷ later) = variable_lines x & variables_lines (suc x) later

  -- what stands before the conditions
  abbrev pub opening_text : List ℕ
  opening_text = prelude_text & variables_lines 0 names
