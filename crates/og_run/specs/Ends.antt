-- How a run ends.
use Rattle.std.specs.Prelude.{◌≡◌, ℕ, ◌<◌, ◌≤◌, true, false, List, length, Some}
use Rattle.og_typed.specs.Machine.{Moment, is_finished, IsStart, active, overflows}
use Rattle.og_typed.specs.Stuck.{IsStuck}
use Rattle.og_run.specs.Runs.{Given, moment_after}
use Rattle.og_run.specs.declared.outcome.Finish.{Finish}
use Rattle.og_run.specs.declared.outcome.Finish.TheVariants.{Finished, Stuck, Limit, Overflow}
use Rattle.og_run.specs.declared.outcome.Outcome.{Outcome}

-- the first of the four that is true of the last moment
abbrev pub IsFinish : Given → List ℕ → Moment → Finish → Type 0
IsFinish g h m Finished = is_finished m ≡ true
IsFinish g h m Stuck = IsStuck g.outline m
IsFinish g h m Limit = (is_finished m ≡ false) × (IsStuck g.outline m → ⊥) × (length h ≡ g.limit)
IsFinish g h m (Overflow p) =
    (is_finished m ≡ false) × (IsStuck g.outline m → ⊥) × (length h < g.limit) × (active g.outline m p ≡ true) × (overflows m p ≡ true)

-- the history is a run from the values that were given, within the limit, and the state and the end are those of the moment to which it leads
pub record IsOutcome (g : Given) (r : Outcome) : Type 0 where
  pub begins : IsStart g.outline g.values
  pub short : length r.history.items ≤ g.limit
  pub last : Moment
  pub leads : moment_after g r.history.items ≡ Some last
  pub state : r.state ≡ last.state
  pub finish : IsFinish g r.history.items last r.finish
