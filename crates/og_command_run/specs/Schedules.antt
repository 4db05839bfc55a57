-- Schedules: the processes that are to step, in order, by the numbers under which they are printed.
use Rattle.std.specs.Prelude.{◌≡◌, ◌≢◌, ◌≤◌, ◌-◌, ◌==◌, ◌||◌, ℕ, Bool, false, if◌then◌else◌, nat_le, List, [], ◌∷◌, length, take, map, slice_get, Some, is_some}
use Rattle.og_io.specs.Numbers.{AreNumbers}
use Rattle.og_typed.specs.Syntax.{Program}
use Rattle.og_run.specs.Runs.{Given}
use Rattle.og_run.specs.Turns.{IsTurn}
use Rattle.og_run.specs.declared.turn.RunTurn.TheVariants as turns
use Rattle.og_command_run.specs.declared.hindrance.Hindrance.{Hindrance}
use Rattle.og_command_run.specs.declared.hindrance.Hindrance.TheVariants as hindrances

-- ---- as words

-- no step by the empty word; else numbers, at most 1,000,000
abbrev pub IsSchedule : List ℕ → List ℕ → Type 0
IsSchedule word [] = word ≡ []
IsSchedule word (n ∷ ns) = (word ≢ []) × AreNumbers word (n ∷ ns) × (length (n ∷ ns) ≤ 1000000)

-- ---- as steps

-- the number in calls of the process that is printed as p
abbrev pub number_of : Program → ℕ → ℕ
number_of o p = if p == 0 then length o.processes else p - 1

-- there is a process that is printed so
abbrev pub is_printed : Program → ℕ → Bool
is_printed o p = if p == 0 then is_some o.prologue || is_some o.epilogue else nat_le p (length o.processes)

abbrev pub history_of : Program → List ℕ → List ℕ
history_of o steps = map (number_of o) steps

-- why the process that is printed as p has no step after a history
abbrev pub IsHindered : Given → List ℕ → ℕ → Hindrance → Type 0
IsHindered g h p hindrances.NoProcess = is_printed g.outline p ≡ false
IsHindered g h p hindrances.Ended = IsTurn g h (number_of g.outline p) turns.Done
IsHindered g h p hindrances.Stuck = IsTurn g h (number_of g.outline p) turns.Stuck
IsHindered g h p hindrances.Early = IsTurn g h (number_of g.outline p) turns.Early
IsHindered g h p hindrances.Waits = IsTurn g h (number_of g.outline p) turns.Waits
IsHindered g h p hindrances.Overflow = IsTurn g h (number_of g.outline p) turns.Overflow

-- the first of the steps that cannot be made: those before it can
pub record IsFirstHindered (g : Given) (steps : List ℕ) (made : ℕ) (p : ℕ) (why : Hindrance) : Type 0 where
  pub step : slice_get steps made ≡ Some p
  pub hindered : IsHindered g (history_of g.outline (take made steps)) p why
