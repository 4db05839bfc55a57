-- The pieces of the JSON: texts, values of variables, and members that may be missing.
use Rattle.std.specs.Prelude.{ℕ, ℤ, ◌&&◌, List, [], ◌∷◌, Bool, if◌then◌else◌, slice_get, Option, Some, None}
use Rattle.std.specs.Fmt.{signed_decimal}
use Rattle.std.specs.Str.{is_utf8}
use Rattle.serde_json.specs.Data.{Data, Members, number, string, member, put}
use Rattle.serde_json.specs.Find.{of_integer}
use Rattle.og_linear.specs.Linear.{fits_i64, value_at}
use Rattle.og_report_text.specs.Listing.{name_text}

-- the bytes where they are UTF-8, as those of names and assertions are; else none
abbrev pub utf8_text : List ℕ → List ℕ
utf8_text bytes = if is_utf8 bytes then bytes else []

abbrev pub digits_data : ℤ → Data
digits_data v = string (signed_decimal v)

-- a number where numbers are asked for and it is an i64, else its digits
abbrev pub value_data : Bool → ℤ → Data
value_data numbers v = if numbers && fits_i64 v then number (of_integer v) else digits_data v

-- a member where there is one, before the others
abbrev pub if_some : List ℕ → Option Data → Members → Members
if_some key None rest = rest
if_some key (Some d) rest = member key d rest

-- the members, with this one where there is one
abbrev pub with_optional : List ℕ → Option Data → Members → Members
with_optional key None members = members
with_optional key (Some d) members = put key d members

module _ (names : List (List ℕ)) where
  abbrev pub name_of : ℕ → List ℕ
  name_of x = utf8_text (name_text (slice_get names x))

  -- the members, with these variables and their values
  abbrev pub with_values : Bool → List ℤ → List ℕ → Members → Members
  with_values numbers s [] members = members
  with_values numbers s (x ∷ xs) members =
      with_values numbers s xs (put (name_of x) (value_data numbers (value_at s x)) members)
