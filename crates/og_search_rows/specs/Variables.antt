-- Sets of variables.
use Rattle.std.specs.Prelude.{ℕ, ◌%◌, ◌==◌, Bool}
use Rattle.std.specs.Int.{bit_at}
use Rattle.og_search_rows.specs.declared.variables.Variables.{Variables}

-- the variable, or another whose number has the same last six bits, is in the set
abbrev pub has : Variables → ℕ → Bool
has set x = bit_at set.bits (x % 64) == 1
