-- The first false assertion along a history.
use Rattle.std.specs.Prelude.{◌≡◌, ⊤, ℕ, ◌<◌, ◌≤◌, ℤ, List, length, take}
use Rattle.og_typed.specs.Syntax.{Program}
use Rattle.og_violation.specs.declared.violation.Violation.{Violation}
use Rattle.og_violation.specs.declared.violation.Wrong.{Wrong}
use Rattle.og_violation.specs.declared.violation.Wrong.TheVariants.{Assertion, Overflow, Post, Stuck}
use Rattle.og_violation.specs.Violations.{IsWrong, IsViolation}

-- an assertion is false: a process's current one, or the postcondition at the end
abbrev pub IsOfAssertion : Wrong → Type 0
IsOfAssertion (Assertion p) = ⊤
IsOfAssertion (Overflow p) = ⊥
IsOfAssertion Post = ⊤
IsOfAssertion Stuck = ⊥

-- no assertion is false after this history
abbrev pub IsTrueAfter : Program → List ℤ → List ℕ → Type 0
IsTrueAfter o values history = (wrong : Wrong) → IsOfAssertion wrong → IsWrong o values history wrong → ⊥

-- of a process's assertion: none of a process before it is false too; of the postcondition: no process's is
abbrev pub IsLeast : Program → List ℤ → List ℕ → Wrong → Type 0
IsLeast o values history (Assertion p) = (q : ℕ) → q < p → IsWrong o values history (Assertion q) → ⊥
IsLeast o values history (Overflow p) = ⊥
IsLeast o values history Post = (q : ℕ) → q < length o.processes → IsWrong o values history (Assertion q) → ⊥
IsLeast o values history Stuck = ⊥

-- a violation after the first k steps of the history: after fewer steps no assertion is false
pub record IsFirst (o : Program) (values : List ℤ) (history : List ℕ) (v : Violation) : Type 0 where
  pub wrong : IsViolation o v
  pub start : v.values ≡ values
  pub steps : ℕ
  pub within : steps ≤ length history
  pub front : v.history.items ≡ take steps history
  pub before : (k : ℕ) → k < steps → IsTrueAfter o values (take k history)
  pub least : IsLeast o values v.history.items v.wrong

-- after no number of steps
abbrev pub IsTrueAlong : Program → List ℤ → List ℕ → Type 0
IsTrueAlong o values history = (k : ℕ) → IsTrueAfter o values (take k history)
