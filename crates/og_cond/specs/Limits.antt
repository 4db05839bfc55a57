-- The limit of conditions.
use Rattle.std.specs.Prelude.{ℕ}

-- the greatest number of conditions that an outline may have
abbrev pub condition_limit : ℕ
condition_limit = 4000000
