-- Under which numbers processes are printed.
use Rattle.std.specs.Prelude.{ℕ, ◌+◌, ◌==◌, if◌then◌else◌}

-- from 1; the main process, which has this number, as 0
abbrev pub printed_number : ℕ → ℕ → ℕ
printed_number main p = if p == main then 0 else p + 1
