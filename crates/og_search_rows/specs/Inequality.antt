-- What an inequality says of a state.
use Rattle.std.specs.Prelude.{◌≡◌, ℕ, ℤ, pos, ◌+ℤ◌, ◌*ℤ◌, ◌≤ℤ◌, List, map}
use Rattle.og_linear.specs.Linear.{FormValue, form_value, value_at, val, val_terms}
use Rattle.og_search_rows.specs.declared.inequality.Term.{Term}
use Rattle.og_search_rows.specs.declared.inequality.Inequality.{Inequality}
use Rattle.og_search_rows.specs.declared.inequality.Scaled.{Scaled}

-- a term as a variable and its coefficient
abbrev pub pair_of : Term → ℕ × ℤ
pair_of t = (t.var, t.coefficient)

-- a term at a state
abbrev pub part_at : Term → List ℤ → ℤ
part_at t s = t.coefficient *ℤ value_at s t.var

-- the sum of terms at a state
abbrev pub sum_at : List Term → List ℤ → ℤ
sum_at ts s = val_terms (map pair_of ts) s

-- the form that is at most 0
abbrev pub form_of : Inequality → FormValue
form_of f = form_value (map pair_of f.terms.items) f.constant

-- the value of that form at a state
abbrev pub left_side : Inequality → List ℤ → ℤ
left_side f s = val (form_of f) s

-- the inequality is true of a state
abbrev pub Holds : Inequality → List ℤ → Type 0
Holds f s = left_side f s ≤ℤ pos 0

-- its value is the sum of these multiples of two inequalities, at each state
abbrev pub IsSum : Scaled → Scaled → Inequality → Type 0
IsSum first second f =
    (s : List ℤ) → left_side f s ≡ first.times *ℤ left_side first.form.now s +ℤ second.times *ℤ left_side second.form.now s
