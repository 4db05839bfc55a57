-- Which conditions the promises rest on.
use Rattle.std.specs.Prelude.{◌≡◌, Bool, true}
use Rattle.og_typed.specs.Syntax.{Program}
use Rattle.og_cond.specs.Valid.{IsValid, AreValid}
use Rattle.og_cond.specs.Conditions.{safety_conditions, blocking_condition}

-- every condition of the outline but the last is true
abbrev pub IsSafe : Program → Type 0
IsSafe o = AreValid (safety_conditions o)

-- the last condition is true: never are all processes at their ends or at awaits that wait, and some of them at such an await
abbrev pub IsUnblocked : Program → Type 0
IsUnblocked o = IsValid (blocking_condition o)

-- every condition but the last is true, and the last one too where it is said so
abbrev pub IsProved : Program → Bool → Type 0
IsProved o unblocked = IsSafe o × (unblocked ≡ true → IsUnblocked o)
