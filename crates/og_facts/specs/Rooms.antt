-- Counts by the claims about an assertion.
use Rattle.std.specs.Prelude.{◌≡◌, ℕ, ◌+◌, ◌<◌, ◌≤◌, List, [], ◌∷◌, Bool, true, false, Option, Some, None}
use Rattle.og_typed.specs.Syntax.{Formula, Formulas}
use Rattle.og_facts.specs.Facts.{most_facts}
use Rattle.og_facts.specs.Counts.{count_yes, count_no, count_yes_all, count_no_all, counts_yes, counts_no}

-- that it is true, or that it is false
abbrev pub count_said : Bool → Formula → ℕ
count_said true a = count_yes a
count_said false a = count_no a

abbrev pub count_all : Bool → Formulas → ℕ
count_all true all = count_yes_all all
count_all false all = count_no_all all

abbrev pub counts_each : Bool → Formulas → List ℕ
counts_each true all = counts_yes all
counts_each false all = counts_no all

-- of all items, by that of each
abbrev pub count_each : {A : Type 0} → (A → ℕ) → List A → ℕ
count_each of [] = 0
count_each of (x ∷ xs) = of x + count_each of xs

-- this many, within the limit; nothing where there are more
abbrev pub IsSize : ℕ → Option ℕ → Type 0
IsSize n None = most_facts < n
IsSize n (Some size) = (size ≡ n) × (n ≤ most_facts)
