-- The line starts of a text, by which an index places its offsets.
use Rattle.std.specs.Prelude.{◌≡◌, ℕ, ◌+◌, ◌-◌, ◌^◌, ◌<◌, ◌≤◌, ◌⊎◌, List, [], ◌∷◌, length, slice_index_or, if◌then◌else◌}
use Rattle.og_text.specs.Place.{is_line_end, line_at, column_at}

-- the offsets right after the line ends of a text that begins at an offset, in order
abbrev pub line_starts_from : ℕ → List ℕ → List ℕ
line_starts_from at [] = []
line_starts_from at (b ∷ bs) = (if is_line_end b then (at + 1) ∷ line_starts_from (at + 1) bs else line_starts_from (at + 1) bs)

-- the offsets right after the line ends of a text, in order
abbrev pub line_starts : List ℕ → List ℕ
line_starts text = line_starts_from 0 text

-- the offsets are the text's line starts, and the text is within its limit
pub record IsIndexOf (text starts : List ℕ) : Type 0 where
  pub starts_are : starts ≡ line_starts text
  pub short : length text ≤ 2 ^ 20

-- the start of a line, given how many starts lie up to a place: that of the first line is 0
abbrev pub IsStartOf : List ℕ → ℕ → ℕ → Type 0
IsStartOf starts count start = ((count ≡ 0) × (start ≡ 0)) ⊎ ((0 < count) × (start ≡ slice_index_or starts (count - 1) start))

-- how many starts lie up to a place, and the last of them, give its line and its column
pub record IsPlacedBy (text starts : List ℕ) (at count : ℕ) : Type 0 where
  pub line : count + 1 ≡ line_at text at
  pub column : (start : ℕ) → IsStartOf starts count start → at + 1 ≡ column_at text at + start
  pub few : count ≤ at
