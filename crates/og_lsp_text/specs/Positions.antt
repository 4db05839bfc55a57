-- Lines, characters and units, as the Language Server Protocol counts them.
use Rattle.std.specs.Prelude.{◌≡◌, ℕ, zero, suc, ◌+◌, ◌≤◌, ◌⊎◌, Bool, true, false, ◌==◌, ◌&&◌, ◌||◌, not, nat_lt, nat_le, List, length, slice_index, sum_by, codes, if◌then◌else◌}
use Rattle.std.specs.List.{slice_range}
use Rattle.og_text.specs.declared.place.Span.{Span}
use Rattle.og_lsp_text.specs.declared.encoding.Encoding.{Encoding}
use Rattle.og_lsp_text.specs.declared.encoding.Encoding.TheVariants.{Utf8, Utf16}
use Rattle.og_lsp_text.specs.declared.position.Position.{Position}
use Rattle.og_lsp_text.specs.declared.position.Range.{Range}

-- the name that the protocol has for an encoding
abbrev pub name_of : Encoding → List ℕ
name_of Utf8 = codes "utf-8"
name_of Utf16 = codes "utf-16"

-- the byte at a place, 0 behind the end
abbrev pub byte_at : List ℕ → ℕ → ℕ
byte_at text at = slice_index text at

-- a line ends with LF, and with a CR that no LF follows
abbrev pub ends_line : List ℕ → ℕ → Bool
ends_line text at = byte_at text at == 10 || (byte_at text at == 13 && not (byte_at text (at + 1) == 10))

-- the line of a place, counted from 0: how many bytes in front of it end a line
abbrev pub line_of : List ℕ → ℕ → ℕ
line_of text zero = 0
line_of text (suc at) = (if ends_line text at then line_of text at + 1 else line_of text at)

-- where the line of a place begins
abbrev pub line_start : List ℕ → ℕ → ℕ
line_start text zero = 0
line_start text (suc at) = (if ends_line text at then at + 1 else line_start text at)

-- a byte of a character behind its first one
abbrev pub goes_on : ℕ → Bool
goes_on byte = nat_le 128 byte && nat_lt byte 192

-- how many units a byte adds: each byte is one of UTF-8; of UTF-16 the first byte of a character is one, and two where there are four
abbrev pub unit : Encoding → ℕ → ℕ
unit Utf8 byte = 1
unit Utf16 byte = (if goes_on byte then 0 else if nat_le 240 byte then 2 else 1)

-- the units from one place up to another
abbrev pub units : Encoding → List ℕ → ℕ → ℕ → ℕ
units encoding text from to = sum_by (unit encoding) (slice_range text from to)

-- the units that the line of a place has in front of it
abbrev pub character_of : Encoding → List ℕ → ℕ → ℕ
character_of encoding text at = units encoding text (line_start text at) at

-- the position of a place
abbrev pub position_of : Encoding → List ℕ → ℕ → Position
position_of encoding text at = record { line = line_of text at; character = character_of encoding text at }

-- the range of some bytes
abbrev pub range_of : Encoding → List ℕ → Span → Range
range_of encoding text span = record { start = position_of encoding text span.start; end = position_of encoding text span.end }

-- a CR stands in front of the place
abbrev pub follows_cr : List ℕ → ℕ → Bool
follows_cr text zero = false
follows_cr text (suc at) = byte_at text at == 13

-- a character begins at the place, or the text ends there; CR and LF are one
abbrev pub is_boundary : List ℕ → ℕ → Bool
is_boundary text at = not (goes_on (byte_at text at)) && not (byte_at text at == 10 && follows_cr text at)

-- the place is the last boundary of the position's line with at most so many units in front of it; the line's start where there is none
pub record IsPlaceOf (encoding : Encoding) (text : List ℕ) (position : Position) (at : ℕ) : Type 0 where
  pub within : at ≤ length text
  pub line : line_of text at ≡ position.line
  pub boundary : (is_boundary text at ≡ true) ⊎ (line_start text at ≡ at)
  pub fits : character_of encoding text at ≤ position.character
  pub last : (other : ℕ) → other ≤ length text → line_of text other ≡ position.line → is_boundary text other ≡ true → character_of encoding text other ≤ position.character → other ≤ at
