-- The number and the name of a fault, and where it stands.
use Rattle.std.specs.Prelude.{ℕ, List, codes}
use Rattle.og_typed.specs.declared.fault.TypeFault.{TypeFault}
use Rattle.og_typed.specs.declared.fault.TypeFault.TheVariants as faults

-- the number under which a refusal is printed
abbrev pub number_of_fault : TypeFault → ℕ
number_of_fault (faults.Undeclared at) = 10
number_of_fault (faults.DeclaredTwice at) = 11
number_of_fault (faults.AuxUsed at) = 12
number_of_fault (faults.AuxInPrePost at) = 13
number_of_fault (faults.CoefficientTooLarge at) = 14
number_of_fault (faults.TooManyVariables at) = 15
number_of_fault (faults.TooManyProcesses at) = 16
number_of_fault (faults.AwaitTooLong at) = 17

-- the name under which a refusal is printed
abbrev pub name_of_fault : TypeFault → List ℕ
name_of_fault (faults.Undeclared at) = codes "Undeclared"
name_of_fault (faults.DeclaredTwice at) = codes "DeclaredTwice"
name_of_fault (faults.AuxUsed at) = codes "AuxUsed"
name_of_fault (faults.AuxInPrePost at) = codes "AuxInPrePost"
name_of_fault (faults.CoefficientTooLarge at) = codes "CoefficientTooLarge"
name_of_fault (faults.TooManyVariables at) = codes "TooManyVariables"
name_of_fault (faults.TooManyProcesses at) = codes "TooManyProcesses"
name_of_fault (faults.AwaitTooLong at) = codes "AwaitTooLong"

-- the offset at which the fault stands
abbrev pub place_of_fault : TypeFault → ℕ
place_of_fault (faults.Undeclared at) = at
place_of_fault (faults.DeclaredTwice at) = at
place_of_fault (faults.AuxUsed at) = at
place_of_fault (faults.AuxInPrePost at) = at
place_of_fault (faults.CoefficientTooLarge at) = at
place_of_fault (faults.TooManyVariables at) = at
place_of_fault (faults.TooManyProcesses at) = at
place_of_fault (faults.AwaitTooLong at) = at
