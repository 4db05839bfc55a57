-- The number and the name of a fault.
use Rattle.std.specs.Prelude.{ℕ, List, codes}
use Rattle.og_step.specs.declared.fault.StartFault.{StartFault}
use Rattle.og_step.specs.declared.fault.StartFault.TheVariants as faults

-- the number under which a refusal is printed
abbrev pub number_of_fault : StartFault → ℕ
number_of_fault faults.WrongLength = 51
number_of_fault faults.NotPre = 50

-- the name under which a refusal is printed
abbrev pub name_of_fault : StartFault → List ℕ
name_of_fault faults.WrongLength = codes "WrongLength"
name_of_fault faults.NotPre = codes "NotPre"
