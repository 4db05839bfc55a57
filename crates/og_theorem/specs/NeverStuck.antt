-- No run gets stuck.
use Rattle.og_typed.specs.Syntax.{Program}
use Rattle.og_typed.specs.Machine.{Moment, IsReached}
use Rattle.og_typed.specs.Stuck.{IsStuck}

-- no run reaches a stuck moment: not finished, the main process not active, and all others that have something left waiting
abbrev pub IsNeverStuck : Program → Type 0
IsNeverStuck o = (m : Moment) → IsReached o m → IsStuck o m → ⊥
