-- Conditions as triples: an assertion before, a statement, an assertion after.
use Rattle.std.specs.Prelude.{ℕ, ◌-◌, ◌==◌, List, [], ◌∷◌, length, take, Option, Some, None, slice_get, if◌then◌else◌, codes}
use Rattle.og_typed.specs.Syntax.{Simple, Pass, Set}
use Rattle.og_cond.specs.Condition.{Condition, ActionTree, One, Whole, Part, Yes, No, Hypothesis, Is, Starts, OneOf, Goal, Holds, Fits, Never}
use Rattle.og_report_text.specs.Places.{◌&◌}
use Rattle.og_report_text.specs.Listing.{name_text, form_text, header_text}
use Rattle.og_report_text.specs.Assertions.{assertion_text, operand_text}
use Rattle.og_report_text.specs.Values.{value_text}

-- `skip` where nothing is done; an await is the last hypothesis and the body
abbrev pub own_hypotheses : Option ActionTree → List Hypothesis → List Hypothesis
own_hypotheses None hs = hs
own_hypotheses (Some (One x e)) hs = hs
own_hypotheses (Some (Whole body)) hs = take (length hs - 1) hs

-- in parentheses where it binds less tightly than this: a single one never
abbrev pub least_of : List Hypothesis → ℕ
least_of hs = if length hs == 1 then 0 else 2

module _ (names : List (List ℕ)) where
  -- ---- the assertion before

  abbrev pub part_text : ℕ → Part → List ℕ
  part_text least (Yes a) = operand_text names least a
  part_text least (No a) = codes "not " & operand_text names 3 a

  -- with `and` between two; this stands before the first
  abbrev pub parts_text : List ℕ → List Part → List ℕ
  parts_text opening [] = []
  parts_text opening (p ∷ ps) = (opening & part_text 2 p) & parts_text (codes " and ") ps

  -- with `or` between two; this stands before the first
  abbrev pub choices_text : List ℕ → List (List Part) → List ℕ
  choices_text opening [] = []
  choices_text opening (c ∷ cs) = (opening & parts_text [] c) & choices_text (codes " or ") cs

  abbrev pub one_of_text : List (List Part) → List ℕ
  one_of_text [] = codes "false"
  one_of_text (c ∷ cs) = codes "(" & choices_text [] (c ∷ cs) & codes ")"

  abbrev pub hypothesis_text : ℕ → Hypothesis → List ℕ
  hypothesis_text least (Is p) = part_text least p
  hypothesis_text least (Starts x v) = value_text names x v
  hypothesis_text least (OneOf cs) = one_of_text cs

  -- with `and` between two; this stands before the first
  abbrev pub hypotheses_text : ℕ → List ℕ → List Hypothesis → List ℕ
  hypotheses_text least opening [] = []
  hypotheses_text least opening (h ∷ hs) = (opening & hypothesis_text least h) & hypotheses_text least (codes " and ") hs

  abbrev pub before_text : List Hypothesis → List ℕ
  before_text hs = codes "  {" & hypotheses_text (least_of hs) [] hs & codes "}\n"

  -- ---- the statement

  abbrev pub simple_text : Simple → List ℕ
  simple_text Pass = codes "skip"
  simple_text (Set x e) = name_text (slice_get names x) & codes " := " & form_text names e

  -- with `;` between two; this stands before the first
  abbrev pub simples_text : List ℕ → List Simple → List ℕ
  simples_text opening [] = []
  simples_text opening (s ∷ ss) = (opening & simple_text s) & simples_text (codes "; ") ss

  -- a single one stands bare
  abbrev pub body_text : List Simple → List ℕ
  body_text [] = codes "begin end"
  body_text (s ∷ []) = simple_text s
  body_text (s ∷ r ∷ ss) = codes "begin " & simples_text [] (s ∷ r ∷ ss) & codes " end"

  abbrev pub guard_text : Option Hypothesis → List ℕ
  guard_text None = []
  guard_text (Some h) = codes "await " & hypothesis_text 0 h & codes " then "

  abbrev pub statement_text : List Hypothesis → Option ActionTree → List ℕ
  statement_text hs None = codes "skip"
  statement_text hs (Some (One x e)) = simple_text (Set x e)
  statement_text hs (Some (Whole body)) = guard_text (slice_get hs (length hs - 1)) & body_text body

  -- ---- the assertion after

  abbrev pub goal_text : Goal → List ℕ
  goal_text (Holds a) = codes "{" & assertion_text names a & codes "}"
  goal_text Fits = codes "no overflow"
  goal_text Never = codes "{false}"

  -- ---- triples

  abbrev pub lines_text : Condition → List ℕ
  lines_text c =
      before_text (own_hypotheses c.action c.hypotheses)
      & codes "  " & statement_text c.hypotheses c.action & codes "\n"
      & codes "  " & goal_text c.goal & codes "\n"

  abbrev pub triple_text : List ℕ → ℕ → Condition → List ℕ
  triple_text source n c = header_text source n c & lines_text c
