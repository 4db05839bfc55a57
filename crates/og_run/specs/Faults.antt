-- The number and the name of a fault.
use Rattle.std.specs.Prelude.{ℕ, List, codes}
use Rattle.og_step.specs.declared.fault.StartFault.{StartFault}
use Rattle.og_step.specs.declared.fault.StartFault.TheVariants as starts
use Rattle.og_run.specs.declared.fault.RunFault.{RunFault}
use Rattle.og_run.specs.declared.fault.RunFault.TheVariants as faults

-- the number under which a refusal is printed
abbrev pub number_of_fault : RunFault → ℕ
number_of_fault faults.NotPre = 50
number_of_fault faults.WrongLength = 51
number_of_fault faults.Spawn = 52

-- the name under which a refusal is printed
abbrev pub name_of_fault : RunFault → List ℕ
name_of_fault faults.NotPre = codes "NotPre"
name_of_fault faults.WrongLength = codes "WrongLength"
name_of_fault faults.Spawn = codes "Spawn"

-- the fault of a start, as that of a run
abbrev pub fault_of_start : StartFault → RunFault
fault_of_start starts.WrongLength = faults.WrongLength
fault_of_start starts.NotPre = faults.NotPre
