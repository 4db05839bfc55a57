-- What an elimination ends with.
use Rattle.std.specs.Prelude.{ℕ, List, All, ⊤}
use Rattle.og_search_rows.specs.declared.rows.Row.{Row}
use Rattle.og_search_rows.specs.Rows.{HoldsAt}
use Rattle.og_search_elimination.specs.declared.elimination.Outcome.{Outcome}
use Rattle.og_search_elimination.specs.declared.elimination.Outcome.TheVariants as outcomes

-- values that it ends with make these rows true
abbrev pub IsTrueOutcome : List Row → List ℕ → Outcome → Type 0
IsTrueOutcome rows base (outcomes.Model m) = All (λ i. HoldsAt rows i m) base
IsTrueOutcome rows base (outcomes.Gap gap) = ⊤
IsTrueOutcome rows base outcomes.OutOfRange = ⊤
IsTrueOutcome rows base outcomes.Unknown = ⊤
