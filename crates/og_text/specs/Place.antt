-- Lines and columns.
use Rattle.std.specs.Prelude.{ℕ, ◌+◌, Bool, ◌==◌, not, List, take, count_by}
use Rattle.std.specs.List.{suffix_len}

-- the byte LF
abbrev pub is_line_end : ℕ → Bool
is_line_end b = b == 10

-- one more than the line ends before the place
abbrev pub line_at : List ℕ → ℕ → ℕ
line_at text at = count_by is_line_end (take at text) + 1

-- one more than the bytes since the last line end before the place
abbrev pub column_at : List ℕ → ℕ → ℕ
column_at text at = suffix_len (λ b. not (is_line_end b)) (take at text) + 1
