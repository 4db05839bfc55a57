-- How a source is quoted.
use Rattle.std.specs.Prelude.{ℕ, nat_lt, length, take, drop, List, [], ◌∷◌, Bool, ◌==◌, ◌||◌, if◌then◌else◌, codes}
use Rattle.og_report_text.specs.Places.{◌&◌}

-- a line feed, or the `#` of a comment
abbrev pub ends_line : ℕ → Bool
ends_line b = b == 10 || b == 35

-- a tab, a carriage return or a space
abbrev pub is_blank : ℕ → Bool
is_blank b = b == 9 || (b == 13 || b == 32)

-- up to the end of the line, without its comment
abbrev pub line_of : List ℕ → List ℕ
line_of [] = []
line_of (b ∷ bs) = if ends_line b then [] else b ∷ line_of bs

-- a byte before the rest, which goes too where it is blank and nothing is left
abbrev pub kept_before : ℕ → List ℕ → List ℕ
kept_before b [] = if is_blank b then [] else b ∷ []
kept_before b (c ∷ cs) = b ∷ c ∷ cs

-- without the blanks at its end
abbrev pub trimmed : List ℕ → List ℕ
trimmed [] = []
trimmed (b ∷ bs) = kept_before b (trimmed bs)

-- at most this many bytes of a line, with `..` where there are more
abbrev pub cut_text : ℕ → List ℕ → List ℕ
cut_text limit line = if nat_lt limit (length line) then trimmed (take limit line) & codes " .." else line

-- the source from a byte offset to the end of the line
abbrev pub quote_text : ℕ → List ℕ → ℕ → List ℕ
quote_text limit source at = cut_text limit (trimmed (line_of (drop at source)))
