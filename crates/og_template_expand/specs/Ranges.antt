-- Ranges, and the instances of bound names.
use Rattle.std.specs.Prelude.{ℕ, zero, suc, ◌+◌, ℤ, pos, negsuc, ◌-ℤ◌, int_lt, int_le, nat_abs, nat_lt, nat_le, Bool, true, false, not, ◌&&◌, List, [], ◌∷◌, Option, Some, None, Ok, if◌then◌else◌}
use Rattle.og_text.specs.declared.place.Span.{Span}
use Rattle.og_parse.specs.declared.raw.Relation.{Relation}
use Rattle.og_parse.specs.declared.raw.Relation.TheVariants as relations
use Rattle.og_template.specs.declared.fault.FaultKind.TheVariants.{BadRange}
use Rattle.og_template_expand.specs.Trees.{Bounds, Test, Binder}
use Rattle.og_template_expand.specs.Answer.{Checked, ◌>>=◌, refused, gathered}
use Rattle.og_template_expand.specs.Scope.{Range, Scope, bound_to}
use Rattle.og_template_expand.specs.Values.{value_of}

-- a range begins at 0 or above, and has at most 256 numbers, or 76
abbrev pub range_between : ℤ → ℤ → Span → Checked Range
range_between low high place =
    if int_lt low (pos 0) then refused BadRange place
    else (if int_lt high low then Ok (record { low = nat_abs low; count = 0 })
    else (if nat_lt (nat_abs (high -ℤ low)) 256
    then Ok (record { low = nat_abs low; count = nat_abs (high -ℤ low) + 1 })
    else refused BadRange place))

abbrev pub range_of : Scope → Bounds → Checked Range
range_of scope bounds = do
  low ← value_of scope bounds.low
  high ← value_of scope bounds.high
  range_between low high bounds.place

-- this number and those behind it, as many as the second says
abbrev pub counted_from : ℕ → ℕ → List ℤ
counted_from low zero = []
counted_from low (suc n) = pos low ∷ counted_from (low + 1) n

abbrev pub numbers_of : Range → List ℤ
numbers_of range = counted_from range.low range.count

-- the values of a binder's range, rising
abbrev pub values_of : Scope → Binder → Checked (List ℤ)
values_of scope binder = range_of scope binder.range >>= λ range. Ok (numbers_of range)

abbrev pub is_in : ℤ → Range → Bool
is_in (pos n) range = nat_le range.low n && nat_lt n (range.low + range.count)
is_in (negsuc n) range = false

abbrev pub compares : ℤ → Relation → ℤ → Bool
compares left relations.LessEqual right = int_le left right
compares left relations.Less right = int_lt left right
compares left relations.GreaterEqual right = int_le right left
compares left relations.Greater right = int_lt right left
compares left relations.Equal right = int_le left right && int_le right left
compares left relations.NotEqual right = not (int_le left right && int_le right left)

abbrev pub holds : Scope → Test → Checked Bool
holds scope test = do
  left ← value_of scope test.left
  right ← value_of scope test.right
  Ok (compares left test.relation right)

-- tests are asked from the left up to the first that fails
abbrev pub all_hold : Scope → List Test → Checked Bool
all_hold scope [] = Ok true
all_hold scope (test ∷ tests) =
    holds scope test >>= λ h. if h then all_hold scope tests else Ok false

-- the scope in which a binder's name stands for a number, if that is one of its instances
abbrev pub entered : Scope → Binder → ℤ → Checked (Option Scope)
entered scope binder value = do
  h ← all_hold (bound_to scope binder.name.name value) binder.tests
  Ok (if h then Some (bound_to scope binder.name.name value) else None)

-- what is made in the scope, if there is one
abbrev pub inside : {Y : Type 0} → (Scope → Checked (List Y)) → Option Scope → Checked (List Y)
inside body None = Ok []
inside body (Some scope) = body scope

abbrev pub instance_of : {Y : Type 0} → Scope → Binder → (Scope → Checked (List Y)) → ℤ
    → Checked (List Y)
instance_of scope binder body value = entered scope binder value >>= inside body

-- what is made for each instance of a binder, one after the other
abbrev pub instances : {Y : Type 0} → Scope → Binder → (Scope → Checked (List Y)) → Checked (List Y)
instances scope binder body = values_of scope binder >>= gathered (instance_of scope binder body)
