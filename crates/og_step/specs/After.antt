-- What a step leaves.
use Rattle.std.specs.Prelude.{◌≡◌, ℕ, Some, None}
use Rattle.og_typed.specs.Machine.{next}
use Rattle.og_step.specs.declared.turn.Turn.{Turn}
use Rattle.og_step.specs.declared.turn.Turn.TheVariants as turn
use Rattle.og_step.specs.Progress.{Progress}

-- the next moment at Moved, and else nothing has changed, as there is no step
abbrev pub IsAfter : Turn → ℕ → Progress → Progress → Type 0
IsAfter turn.Moved p old new = (next old.moment p ≡ Some new.moment) × (new.outline ≡ old.outline)
IsAfter _ p old new = (next old.moment p ≡ None) × (new ≡ old)
