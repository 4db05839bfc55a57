-- Rows, and what they follow from.
use Rattle.std.specs.Prelude.{◌≡◌, ℕ, ◌<◌, ◌≤◌, ℤ, pos, ◌+ℤ◌, ◌*ℤ◌, ◌↔◌, List, [], ◌∷◌, Bool, true, false, Option, Some, None, IfSome, ⊤, length, slice_get}
use Rattle.og_linear.specs.Linear.{IsProper}
use Rattle.og_search_rows.specs.Inequality.{left_side, Holds}
use Rattle.og_search_rows.specs.declared.inequality.Inequality.{Inequality}
use Rattle.og_search_rows.specs.declared.rows.Summand.{Summand}
use Rattle.og_search_rows.specs.declared.rows.Origin.{Origin}
use Rattle.og_search_rows.specs.declared.rows.Origin.TheVariants as origins
use Rattle.og_search_rows.specs.declared.rows.Row.{Row}
use Rattle.og_search_rows.specs.declared.rows.Added.{Added}
use Rattle.og_search_rows.specs.declared.rows.Added.TheVariants as added
use Rattle.og_search_rows.specs.declared.error.AddError.{AddError}
use Rattle.og_search_rows.specs.declared.error.AddError.TheVariants as errors

-- rows by their numbers, and how many steps are left
pub record RowsValue : Type 0 where
  pub rows : List Row
  pub budget : ℕ

-- the row is a fact
abbrev pub is_given : Origin → Bool
is_given (origins.Given p) = true
is_given (origins.Range x side) = false
is_given (origins.Sum sum) = false
is_given (origins.Cut i d) = false

-- row i is true of a state; a number without a row says nothing
abbrev pub HoldsAt : List Row → ℕ → List ℤ → Type 0
HoldsAt rows i s = IfSome (slice_get rows i) (λ r. Holds r.form s)

-- the facts among the rows up to row i are true of a state
abbrev pub FactsHold : List Row → ℕ → List ℤ → Type 0
FactsHold rows i s = (j : ℕ) → j ≤ i → IfSome (slice_get rows j) (λ r. is_given r.origin ≡ true → Holds r.form s)

-- each row is true of every state of i64 values of which the facts up to it are true
abbrev pub AllFollow : List Row → Type 0
AllFollow rows = (i : ℕ) (s : List ℤ) → IsProper s → FactsHold rows i s → HoldsAt rows i s

-- no state of i64 values makes the facts up to row i true
abbrev pub Contradicts : List Row → ℕ → Type 0
Contradicts rows i = (s : List ℤ) → IsProper s → FactsHold rows i s → ⊥

-- the old rows are there still
abbrev pub Extends : List Row → List Row → Type 0
Extends old new = (length old ≤ length new) × ((i : ℕ) → i < length old → slice_get new i ≡ slice_get old i)

-- row i is there, and says of states just what P says
abbrev pub IsRowOf : List Row → ℕ → (List ℤ → Type 0) → Type 0
IsRowOf rows i P = (i < length rows) × ((s : List ℤ) → HoldsAt rows i s ↔ P s)

-- the same of a row that was added
abbrev pub AddsRowOf : List Row → Added → (List ℤ → Type 0) → Type 0
AddsRowOf rows (added.Row i) P = IsRowOf rows i P
AddsRowOf rows added.Nothing P = ⊤

-- the row of the error, if it has one, shows that the facts contradict each other
abbrev pub ShowsContradiction : List Row → AddError → Type 0
ShowsContradiction rows (errors.Contradiction i) = Contradicts rows i
ShowsContradiction rows errors.Memory = ⊤
ShowsContradiction rows errors.Budget = ⊤

-- the left side of row i at a state; 0 where there is no such row
abbrev pub left_of : Option Row → List ℤ → ℤ
left_of None s = pos 0
left_of (Some r) s = left_side r.form s

-- the sum of multiples of rows at a state
abbrev pub weighted : List Row → List Summand → List ℤ → ℤ
weighted rows [] s = pos 0
weighted rows (p ∷ ps) s = pos p.times *ℤ left_of (slice_get rows p.row) s +ℤ weighted rows ps s

-- what a row of this origin has to say follows from the rows, or it is a fact
abbrev pub IsJustified : List Row → Inequality → Origin → Type 0
IsJustified rows f o = (s : List ℤ) → IsProper s → ((i : ℕ) → HoldsAt rows i s) → (is_given o ≡ true → Holds f s) → Holds f s
