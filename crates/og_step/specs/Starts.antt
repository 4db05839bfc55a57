-- The first moment, or the fault of the values.
use Rattle.std.specs.Prelude.{⊤, ℤ, List, ◌==◌, Option, Some, None, Result, Ok, Err, length, if◌then◌else◌}
use Rattle.og_typed.specs.Syntax.{Program}
use Rattle.og_typed.specs.Truth.{truth}
use Rattle.og_typed.specs.Machine.{start_state}
use Rattle.og_step.specs.declared.fault.StartFault.{StartFault}
use Rattle.og_step.specs.declared.fault.StartFault.TheVariants as faults
use Rattle.og_step.specs.declared.fault.StartError.{StartError}
use Rattle.og_step.specs.declared.fault.StartError.TheVariants as errors

-- the number of the values comes first, and then the precondition, with each auxiliary at its initial value
abbrev pub start_fault : Program → List ℤ → Option StartFault
start_fault o values =
    if length values == o.vars
    then (if truth o.pre.assertion (start_state o values) then None else Some faults.NotPre)
    else Some faults.WrongLength

-- P, where memory ran out
abbrev pub OnMemory : {X : Type 0} → Result X StartError → Type 0 → Type 0
OnMemory (Ok x) P = ⊤
OnMemory (Err errors.Memory) P = P
OnMemory (Err (errors.Fault e)) P = ⊤
