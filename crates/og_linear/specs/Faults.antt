-- The number and the name of a fault.
use Rattle.std.specs.Prelude.{ℕ, List, codes}
use Rattle.og_linear.specs.declared.fault.FormFault.{FormFault}
use Rattle.og_linear.specs.declared.fault.FormFault.TheVariants as faults

-- the number under which a refusal is printed
abbrev pub number_of_fault : FormFault → ℕ
number_of_fault faults.TooLarge = 5
number_of_fault faults.NotDivisible = 6

-- the name under which a refusal is printed
abbrev pub name_of_fault : FormFault → List ℕ
name_of_fault faults.TooLarge = codes "TooLarge"
name_of_fault faults.NotDivisible = codes "NotDivisible"
