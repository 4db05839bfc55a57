-- The number and the name of a fault.
use Rattle.std.specs.Prelude.{ℕ, List, codes}
use Rattle.og_facts.specs.declared.fault.FactsFault.{FactsFault}
use Rattle.og_facts.specs.declared.fault.FactsFault.TheVariants as faults

-- the number under which a refusal is printed
abbrev pub number_of_fault : FactsFault → ℕ
number_of_fault faults.TooManyFacts = 35
number_of_fault faults.TooLarge = 5

-- the name under which a refusal is printed
abbrev pub name_of_fault : FactsFault → List ℕ
name_of_fault faults.TooManyFacts = codes "TooManyFacts"
name_of_fault faults.TooLarge = codes "TooLarge"
