-- The answer of a step, and the moment after it.
use Rattle.std.specs.Prelude.{◌≡◌, ℕ, ℤ, List, Some, None, if◌then◌else◌}
use Rattle.std.specs.List.{AllByRecursion}
use Rattle.og_typed.specs.Syntax.{Rest}
use Rattle.og_typed.specs.Rule.{IsUsable, IsUsableStatement}
use Rattle.og_typed.specs.Machine.{advance_rest, is_empty, rest_overflows, Moment, todo, overflows}
use Rattle.og_typed.specs.Turns.{is_early}
use Rattle.og_typed.specs.Stuck.{rest_waits, waits}
use Rattle.og_step.specs.declared.turn.Turn.{Turn}
use Rattle.og_step.specs.declared.turn.Turn.TheVariants as turn

-- ---- one rest

-- its assertions and statements speak of the first n variables alone, by small forms
abbrev pub AreUsable : ℕ → Rest → Type 0
AreUsable n = AllByRecursion (λ head. IsUsable n head.0 × IsUsableStatement n head.1)

abbrev pub rest_turn : List ℤ → Rest → Turn
rest_turn s rest =
    if is_empty rest then turn.Done
    else (if rest_waits s rest then turn.Waits else (if rest_overflows s rest then turn.Overflow else turn.Moved))

-- from a state and a rest to those after the step; they are the same where there is none
abbrev pub IsStep : Turn → List ℤ × Rest → List ℤ × Rest → Type 0
IsStep turn.Moved old new = advance_rest old.0 old.1 ≡ Some new
IsStep _ old new = (advance_rest old.0 old.1 ≡ None) × (new ≡ old)

-- ---- a moment

-- Done before Early, and Early before what its next statement would do
abbrev pub turn_of : Moment → ℕ → Turn
turn_of m p =
    if is_empty (todo m p) then turn.Done
    else (if is_early m p then turn.Early else (if waits m p then turn.Waits else (if overflows m p then turn.Overflow else turn.Moved)))
