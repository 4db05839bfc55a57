-- The number and the name of a fault.
use Rattle.std.specs.Prelude.{ℕ, List, codes}
use Rattle.og_cert.specs.declared.fault.FaultKind.{FaultKind}
use Rattle.og_cert.specs.declared.fault.FaultKind.TheVariants as kinds

-- the number of a kind of fault
abbrev pub number_of_kind : FaultKind → ℕ
number_of_kind kinds.NoSuchFact = 30
number_of_kind kinds.NotSplit = 31
number_of_kind kinds.NotDivisible = 32
number_of_kind kinds.NotClosed = 33
number_of_kind kinds.TooLarge = 34
number_of_kind kinds.TooManyFacts = 35
number_of_kind kinds.LeftOver = 36
number_of_kind kinds.NotAtom = 37

-- the name under which a kind of fault is printed
abbrev pub name_of_kind : FaultKind → List ℕ
name_of_kind kinds.NoSuchFact = codes "NoSuchFact"
name_of_kind kinds.NotSplit = codes "NotSplit"
name_of_kind kinds.NotDivisible = codes "NotDivisible"
name_of_kind kinds.NotClosed = codes "NotClosed"
name_of_kind kinds.TooLarge = codes "TooLarge"
name_of_kind kinds.TooManyFacts = codes "TooManyFacts"
name_of_kind kinds.LeftOver = codes "LeftOver"
name_of_kind kinds.NotAtom = codes "NotAtom"
