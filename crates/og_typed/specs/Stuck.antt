-- When a process waits, and when an outline is stuck.
use Rattle.std.specs.Prelude.{◌≡◌, ℕ, ℤ, List, [], ◌∷◌, Bool, true, false, not, length}
use Rattle.og_typed.specs.Syntax.{Statement, Await, Program, Rest}
use Rattle.og_typed.specs.Truth.{truth}
use Rattle.og_typed.specs.Machine.{Moment, rest_of, is_empty, is_process, active, todo, is_finished}

abbrev pub stmt_waits : List ℤ → Statement → Bool
stmt_waits s (Await b body) = not (truth b s)
stmt_waits s _ = false

abbrev pub rest_waits : List ℤ → Rest → Bool
rest_waits s [] = false
rest_waits s (head ∷ rest) = stmt_waits s head.1

-- process p waits: an await whose guard is false comes next
abbrev pub waits : Moment → ℕ → Bool
waits m p = rest_waits m.state (todo m p)

-- not finished, the main process isn't active, and every other process that has something left waits
abbrev pub IsStuck : Program → Moment → Type 0
IsStuck o m =
    (is_finished m ≡ false)
    × (active o m (length o.processes) ≡ false)
    × ((p : ℕ) → is_process o p ≡ true → is_empty (rest_of m p) ≡ false → waits m p ≡ true)
