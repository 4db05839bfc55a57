-- A line of a source with a mark below it.
use Rattle.std.specs.Prelude.{ℕ, ◌+◌, ◌-◌, nat_le, nat_lt, Bool, ◌&&◌, ◌==◌, not, List, length, take, drop, map, if◌then◌else◌, codes}
use Rattle.std.specs.List.{prefix_len, suffix_len}
use Rattle.og_text.specs.Place.{is_line_end}
use Rattle.og_report_text.specs.Places.{◌&◌}

-- space to tilde
abbrev pub is_printable : ℕ → Bool
is_printable b = nat_le 32 b && nat_le b 126

-- a byte as it is shown: a tab, and what can be printed, as it is; a carriage return as a space; else a question mark
abbrev pub shown_byte : ℕ → ℕ
shown_byte b = if is_printable b then b else (if b == 9 then 9 else (if b == 13 then 32 else 63))

-- what stands below a byte: a tab below a tab, so that what follows is in its column
abbrev pub below_byte : ℕ → ℕ
below_byte b = if b == 9 then 9 else 32

-- the bytes of the line before a place, and from it on
abbrev pub in_line : ℕ → Bool
in_line b = not (is_line_end b)

abbrev pub line_before : List ℕ → ℕ → List ℕ
line_before source at = drop (length (take at source) - suffix_len in_line (take at source)) (take at source)

abbrev pub line_after : List ℕ → ℕ → List ℕ
line_after source at = take (prefix_len in_line (drop at source)) (drop at source)

-- the line, and below it a mark at the place; or two spaces, where the line is longer than 160 bytes
abbrev pub marked : List ℕ → List ℕ → List ℕ
marked before after =
    if nat_lt 160 (length before + length after) then codes "  "
    else map shown_byte before & map shown_byte after & codes "\n" & map below_byte before & codes "^ "

abbrev pub quote_text : List ℕ → ℕ → List ℕ
quote_text source at = marked (line_before source at) (line_after source at)
