-- How a relation between two sums is printed.
use Rattle.std.specs.Prelude.{ℕ, ℤ, pos, List, [], ◌∷◌, Bool, true, false, not, ◌&&◌, ◌==◌, if◌then◌else◌, int_lt, nat_abs, codes}
use Rattle.std.specs.Fmt.{decimal}
use Rattle.std.specs.List.{list_any}
use Rattle.std.specs.Ordering.{int_eq}
use Rattle.og_linear.specs.Linear.{Terms}
use Rattle.og_report_text.specs.Places.{◌&◌}
use Rattle.og_report_text.specs.Listing.{times_text, constant_text}
use Rattle.og_report_text.specs.declared.relations.Relation.{Relation}
use Rattle.og_report_text.specs.declared.relations.Relation.TheVariants as relations
use Rattle.og_report_text.specs.declared.relations.Side.{Side}
use Rattle.og_report_text.specs.declared.relations.Side.TheVariants as sides

-- between two sums
abbrev pub sign_of : Relation → List ℕ
sign_of relations.AtMost = codes " <= "
sign_of relations.Equal = codes " = "
sign_of relations.Unequal = codes " <> "

-- a term stands on the left where its coefficient is positive, and else, negated, on the right
abbrev pub is_on : Side → ℤ → Bool
is_on sides.Left c = int_lt (pos 0) c
is_on sides.Right c = not (int_lt (pos 0) c)

abbrev pub has_side : Side → Terms → Bool
has_side side = list_any (λ t. is_on side t.1)

abbrev pub plus_text : Bool → List ℕ
plus_text true = []
plus_text false = codes " + "

-- the sign before a number that is taken away, after a sum that may be empty
abbrev pub minus_sign : Bool → Bool → List ℕ
minus_sign true true = codes "-"
minus_sign true false = []
minus_sign false true = codes " - "
minus_sign false false = codes " + "

-- a number that is taken away; 0 only where the sum is empty
abbrev pub minus_text : Bool → ℤ → List ℕ
minus_text empty c = if nat_abs c == 0 && not empty then [] else minus_sign empty (int_lt (pos 0) c) & decimal (nat_abs c)

-- a relation whose sides both have terms, with a 1 that `<` says
abbrev pub is_strict : Relation → Terms → ℤ → Bool
is_strict relations.AtMost ts c = has_side sides.Left ts && has_side sides.Right ts && int_eq c (pos 1)
is_strict relations.Equal ts c = false
is_strict relations.Unequal ts c = false

-- the sign between the sides
abbrev pub between_text : Bool → Relation → List ℕ
between_text true relation = codes " < "
between_text false relation = sign_of relation

-- the constant on the right, where `<` does not say it
abbrev pub right_constant : Bool → Terms → ℤ → List ℕ
right_constant strict ts c =
    if strict then []
    else if has_side sides.Left ts then minus_text (not (has_side sides.Right ts)) c
    else if has_side sides.Right ts then [] else codes "0"

-- no term of the side stands before the next one
abbrev pub still_empty : Side → Bool → ℕ × ℤ → Bool
still_empty side empty t = if is_on side t.1 then false else empty

module _ (names : List (List ℕ)) where
  -- a term, where it is on this side
  abbrev pub one_text : Side → Bool → ℕ × ℤ → List ℕ
  one_text side empty t = if is_on side t.1 then plus_text empty & times_text names (nat_abs t.1) t.0 else []

  -- the terms of a side; `empty` until the first one
  abbrev pub side_text : Side → Bool → Terms → List ℕ
  side_text side empty [] = []
  side_text side empty (t ∷ ts) = one_text side empty t & side_text side (still_empty side empty t) ts

  -- the constant alone where no coefficient is positive
  abbrev pub left_text : Terms → ℤ → List ℕ
  left_text ts c = if has_side sides.Left ts then side_text sides.Left true ts else constant_text true c

  abbrev pub relation_text : Relation → Terms → ℤ → List ℕ
  relation_text relation ts c =
      left_text ts c
      & between_text (is_strict relation ts c) relation
      & side_text sides.Right true ts
      & right_constant (is_strict relation ts c) ts c
