-- Where the lines of a text begin, as a list.
use Rattle.std.specs.Prelude.{◌≡◌, ℕ, zero, suc, ◌+◌, ◌-◌, ◌≤◌, ◌^◌, nat_lt, List, [], ◌∷◌, ◌++◌, length, slice_index, if◌then◌else◌}
use Rattle.og_lsp_text.specs.Positions.{ends_line, line_of, line_start}

-- the places behind those of so many bytes that end a line, in order
abbrev pub starts_of : List ℕ → ℕ → List ℕ
starts_of text zero = []
starts_of text (suc count) = (if ends_line text count then starts_of text count ++ (count + 1) ∷ [] else starts_of text count)

-- the places are where the lines of the text begin, but the first, and the text is within its limit
pub record IsIndexOf (text starts : List ℕ) : Type 0 where
  pub starts_are : starts ≡ starts_of text (length text)
  pub short : length text ≤ 2 ^ 24

-- where a line begins
abbrev pub start_at : List ℕ → ℕ → ℕ
start_at starts zero = 0
start_at starts (suc line) = slice_index starts line

-- the last place of a line of a text of this length
abbrev pub last_at : List ℕ → ℕ → ℕ → ℕ
last_at starts line len = (if nat_lt line (length starts) then slice_index starts line - 1 else len)

-- the line is that of the place, and begins where the list says
pub record IsLineOf (text starts : List ℕ) (at line : ℕ) : Type 0 where
  pub is_line : line ≡ line_of text at
  pub is_start : start_at starts line ≡ line_start text at
  pub ordered : start_at starts line ≤ at
