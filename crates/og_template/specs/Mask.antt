-- A template without its marks, and its marks.
use Rattle.std.specs.Prelude.{ℕ, ◌+◌, Bool, false, ◌&&◌, not, ◌==◌, List, [], ◌∷◌, ◌++◌, Option, Some, None, is_some, if◌then◌else◌}
use Rattle.og_template.specs.declared.mask.Place.{Place}
use Rattle.og_template.specs.declared.mask.Place.TheVariants as places
use Rattle.og_template.specs.declared.special.Special.{Special}
use Rattle.og_template.specs.declared.special.Special.TheVariants as specials
use Rattle.og_template.specs.declared.mask.Mark.{Mark}

abbrev pub begins_with : List ℕ → ℕ → Bool
begins_with [] byte = false
begins_with (b ∷ bs) byte = b == byte

-- the mark that begins with a byte outside of comments, given the bytes after it
abbrev pub mark_outside : ℕ → List ℕ → Option Special
mark_outside b after =
    if b == 91 then Some specials.OpenBracket
    else (if b == 93 then Some specials.CloseBracket
    else (if (b == 58) && not (begins_with after 61) then Some specials.Colon
    else (if (b == 46) && begins_with after 46 then Some specials.Dots
    else None)))

abbrev pub mark_at : Place → ℕ → List ℕ → Option Special
mark_at places.Outside b after = mark_outside b after
mark_at places.Comment b after = None
mark_at places.SecondDot b after = None

-- where the byte after a byte stands
abbrev pub place_after : Place → ℕ → List ℕ → Place
place_after places.Outside b after =
    if b == 35 then places.Comment
    else (if (b == 46) && begins_with after 46 then places.SecondDot else places.Outside)
place_after places.Comment b after = if b == 10 then places.Outside else places.Comment
place_after places.SecondDot b after = places.Outside

-- a byte, or a blank in place of one of a mark
abbrev pub masked_byte : Place → ℕ → List ℕ → ℕ
masked_byte places.SecondDot b after = 32
masked_byte place b after = if is_some (mark_at place b after) then 32 else b

abbrev pub masked_from : Place → List ℕ → List ℕ
masked_from place [] = []
masked_from place (b ∷ bs) = masked_byte place b bs ∷ masked_from (place_after place b bs) bs

abbrev pub length_of : Special → ℕ
length_of specials.Dots = 2
length_of _ = 1

-- the mark at an offset, where there is one
abbrev pub marks_of : Option Special → ℕ → List Mark
marks_of None at = []
marks_of (Some mark) at = record { special = mark; span = record { start = at; end = at + length_of mark } } ∷ []

abbrev pub marks_from : Place → ℕ → List ℕ → List Mark
marks_from place at [] = []
marks_from place at (b ∷ bs) = marks_of (mark_at place b bs) at ++ marks_from (place_after place b bs) (at + 1) bs

-- the text with blanks in place of its marks
abbrev pub masked : List ℕ → List ℕ
masked text = masked_from places.Outside text

-- its marks, in order
abbrev pub marks : List ℕ → List Mark
marks text = marks_from places.Outside 0 text
