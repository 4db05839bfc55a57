-- Where a replay stands: the words of the contracts of private functions.
use Rattle.std.specs.Prelude.{◌≡◌, ℕ, ◌<◌, ◌≤◌, ℤ, List, length, take, Bool, true, false, if◌then◌else◌, Option, Some, None}
use Rattle.og_typed.specs.Syntax.{Program}
use Rattle.og_typed.specs.Truth.{truth}
use Rattle.og_typed.specs.Machine.{Moment, IsStart, start_of, run_on, next, IsReached, current, phase}
use Rattle.og_typed.specs.Turns.{is_turn}
use Rattle.og_step.specs.Progress.{Progress}
use Rattle.og_violation.specs.declared.violation.Wrong.{Wrong}
use Rattle.og_violation.specs.declared.violation.Wrong.TheVariants.{Assertion, Overflow, Post, Stuck}
use Rattle.og_violation.specs.Violations.{IsWrongAt, IsWrong}
use Rattle.og_violation.specs.Along.{IsOfAssertion, IsTrueAfter, IsLeast}

-- a moment of the outline that a run reaches
abbrev pub IsOf : Program → Progress → Type 0
IsOf o at = (at.outline ≡ o) × IsReached o at.moment

-- the moment to which the history leads
abbrev pub IsAfterRun : Program → List ℤ → List ℕ → Progress → Type 0
IsAfterRun o values history at = (at.outline ≡ o) × IsStart o values × (run_on history (Some (start_of o values)) ≡ Some at.moment)

-- the history is no run from the values
abbrev pub IsNoRun : Program → List ℤ → List ℕ → Type 0
IsNoRun o values history = (m : Moment) → IsStart o values → run_on history (Some (start_of o values)) ≡ Some m → ⊥

-- the main process may step
abbrev pub is_mains_turn : Program → Moment → Bool
is_mains_turn o m = is_turn (phase m) m (length o.processes)

-- the current assertion of process q is true
abbrev pub IsTrueOf : Program → Moment → ℕ → Type 0
IsTrueOf o m q = truth (current o m q) m.state ≡ true

-- it is the first process whose current assertion is false
abbrev pub IsFirstFalse : Program → Moment → ℕ → Type 0
IsFirstFalse o m p = (p < length o.processes) × (truth (current o m p) m.state ≡ false) × ((q : ℕ) → q < p → IsTrueOf o m q)

-- the main process's assertion, where it is false
abbrev pub of_main : Program → Moment → Option Wrong
of_main o m = if truth (current o m (length o.processes)) m.state then None else Some (Assertion (length o.processes))

-- ---- the report of a moment

-- nothing that is reported before this is violated too
abbrev pub IsLeastAt : Program → Moment → Wrong → Type 0
IsLeastAt o m (Assertion p) = (q : ℕ) → q < p → IsWrongAt o m (Assertion q) → ⊥
IsLeastAt o m (Overflow p) = ⊥
IsLeastAt o m Post = (q : ℕ) → q < length o.processes → IsWrongAt o m (Assertion q) → ⊥
IsLeastAt o m Stuck = ⊥

-- the first false assertion of the moment, or that there is none
abbrev pub IsFindingAt : Program → Moment → Option Wrong → Type 0
IsFindingAt o m None = (wrong : Wrong) → IsOfAssertion wrong → IsWrongAt o m wrong → ⊥
IsFindingAt o m (Some wrong) = IsWrongAt o m wrong × IsLeastAt o m wrong

-- where process p has a step
abbrev pub IsFindingIfMoves : Program → Moment → ℕ → Option Wrong → Type 0
IsFindingIfMoves o m p found = (k : Moment) → next m p ≡ Some k → IsFindingAt o m found

-- it is violated after this many steps of the history, and nothing reported is after fewer
abbrev pub IsFirstWrong : Program → List ℤ → List ℕ → ℕ × Wrong → Type 0
IsFirstWrong o values history found =
    (found.0 ≤ length history)
    × IsWrong o values (take found.0 history) found.1
    × IsLeast o values (take found.0 history) found.1
    × ((k : ℕ) → k < found.0 → IsTrueAfter o values (take k history))
