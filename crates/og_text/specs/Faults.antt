-- The number and the name of a fault, and where it stands.
use Rattle.std.specs.Prelude.{ℕ, List, Option, Some, None, codes}
use Rattle.og_text.specs.declared.fault.LexFault.{LexFault}
use Rattle.og_text.specs.declared.fault.LexFault.TheVariants as faults

-- the number under which a refusal is printed
abbrev pub number_of_fault : LexFault → ℕ
number_of_fault (faults.BadByte at) = 1
number_of_fault (faults.NumberTooLarge at) = 2
number_of_fault (faults.NameTooLong at) = 3
number_of_fault faults.SourceTooLong = 4

-- the name under which a refusal is printed
abbrev pub name_of_fault : LexFault → List ℕ
name_of_fault (faults.BadByte at) = codes "BadByte"
name_of_fault (faults.NumberTooLarge at) = codes "NumberTooLarge"
name_of_fault (faults.NameTooLong at) = codes "NameTooLong"
name_of_fault faults.SourceTooLong = codes "SourceTooLong"

-- the offset at which the fault stands, if it stands anywhere
abbrev pub place_of_fault : LexFault → Option ℕ
place_of_fault (faults.BadByte at) = Some at
place_of_fault (faults.NumberTooLarge at) = Some at
place_of_fault (faults.NameTooLong at) = Some at
place_of_fault faults.SourceTooLong = None
