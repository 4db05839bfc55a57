-- What is suggested below a false condition.
use Rattle.std.specs.Prelude.{ℕ, ◌-◌, List, [], ◌∷◌, Option, Some, None, slice_get, Vec, codes}
use Rattle.std.specs.Global.{Global}
use Rattle.og_typed.specs.Plain.{formula}
use Rattle.og_report_text.specs.Assertions.{assertion_text}
use Rattle.og_report_text.specs.Origins.{Rows}
use Rattle.og_report_text.specs.Places.{◌&◌}
use Rattle.og_report_prove.specs.Blocks.{place_text}
use Rattle.og_report_findings.specs.declared.suggestion.Suggestion.{Suggestion}

abbrev pub items_in : Option (Vec Suggestion Global) → List Suggestion
items_in None = []
items_in (Some ss) = ss.items

-- those for the condition with this number, counted from 1
abbrev pub suggested : List (Vec Suggestion Global) → ℕ → List Suggestion
suggested all n = items_in (slice_get all (n - 1))

module _ (names : List (List ℕ)) (source : List ℕ) (rows : Rows) where
  -- the place of an assertion, and what is added to it
  abbrev pub suggestion_line : Suggestion → List ℕ
  suggestion_line s = place_text source rows (codes "adding") s.at & assertion_text names (formula s.assertion.now) & codes "\n"

  abbrev pub suggestion_lines : List Suggestion → List ℕ
  suggestion_lines [] = []
  suggestion_lines (s ∷ ss) = suggestion_line s & suggestion_lines ss
