-- When nothing more can happen.
use Rattle.std.specs.Prelude.{◌≡◌, ◌⊎◌, ℕ, ◌≤◌, Bool, true, List, length, Some}
use Rattle.og_typed.specs.Machine.{Moment, todo, is_empty, is_finished}
use Rattle.og_typed.specs.Stuck.{IsStuck}
use Rattle.og_run.specs.Runs.{Given, moment_after}

-- nothing more can happen to the process p: it has nothing left to do, or the program is stuck, or the history is as long as the limit, or a process has overflowed
abbrev pub OverAt : Given → List ℕ → Bool → ℕ → Type 0
OverAt g h halted p =
    (m : Moment) × (moment_after g h ≡ Some m)
    × ((is_empty (todo m p) ≡ true) ⊎ IsStuck g.outline m ⊎ (g.limit ≤ length h) ⊎ (halted ≡ true))

-- nothing can move any more: a process has overflowed, or the history is as long as the limit, or the program has finished or is stuck
abbrev pub IsOver : Given → List ℕ → Bool → Type 0
IsOver g h halted =
    (halted ≡ true) ⊎ (g.limit ≤ length h) ⊎ ((m : Moment) × (moment_after g h ≡ Some m) × ((is_finished m ≡ true) ⊎ IsStuck g.outline m))
