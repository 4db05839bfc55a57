-- The number and the name of a fault.
use Rattle.std.specs.Prelude.{ℕ, List, codes}
use Rattle.og_template.specs.declared.fault.FaultKind.{FaultKind}
use Rattle.og_template.specs.declared.fault.FaultKind.TheVariants as kinds

-- the number under which a refusal is printed
abbrev pub number_of_kind : FaultKind → ℕ
number_of_kind kinds.NameTooLong = 3
number_of_kind kinds.Expected = 7
number_of_kind kinds.TooDeep = 8
number_of_kind kinds.TooManyStatements = 9
number_of_kind kinds.Undeclared = 10
number_of_kind kinds.DeclaredTwice = 11
number_of_kind kinds.ReservedName = 70
number_of_kind kinds.WrongKind = 71
number_of_kind kinds.WrongCount = 72
number_of_kind kinds.OutOfRange = 73
number_of_kind kinds.ValueTooLarge = 74
number_of_kind kinds.BadModulus = 75
number_of_kind kinds.BadRange = 76
number_of_kind kinds.TooManySteps = 77
number_of_kind kinds.NothingLeft = 79

-- the name under which a refusal is printed
abbrev pub name_of_kind : FaultKind → List ℕ
name_of_kind kinds.NameTooLong = codes "NameTooLong"
name_of_kind kinds.Expected = codes "Expected"
name_of_kind kinds.TooDeep = codes "TooDeep"
name_of_kind kinds.TooManyStatements = codes "TooManyStatements"
name_of_kind kinds.Undeclared = codes "Undeclared"
name_of_kind kinds.DeclaredTwice = codes "DeclaredTwice"
name_of_kind kinds.ReservedName = codes "ReservedName"
name_of_kind kinds.WrongKind = codes "WrongKind"
name_of_kind kinds.WrongCount = codes "WrongCount"
name_of_kind kinds.OutOfRange = codes "OutOfRange"
name_of_kind kinds.ValueTooLarge = codes "ValueTooLarge"
name_of_kind kinds.BadModulus = codes "BadModulus"
name_of_kind kinds.BadRange = codes "BadRange"
name_of_kind kinds.TooManySteps = codes "TooManySteps"
name_of_kind kinds.NothingLeft = codes "NothingLeft"
