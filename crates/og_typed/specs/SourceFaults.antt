-- The number and the name of a fault, and where in the source it stands.
use Rattle.std.specs.Prelude.{ℕ, List, Option, Some}
use Rattle.og_text.specs.Faults.{number_of_fault as number_of_lex, name_of_fault as name_of_lex, place_of_fault as place_of_lex}
use Rattle.og_parse.specs.Faults.{fault_number, fault_name, fault_span}
use Rattle.og_typed.specs.Faults.{number_of_fault, name_of_fault, place_of_fault}
use Rattle.og_typed.specs.declared.source_fault.SourceFault.{SourceFault}
use Rattle.og_typed.specs.declared.source_fault.SourceFault.TheVariants as faults

abbrev pub number_of_source : SourceFault → ℕ
number_of_source (faults.Lex fault) = number_of_lex fault
number_of_source (faults.Parse fault) = fault_number fault
number_of_source (faults.Resolve fault) = number_of_fault fault

abbrev pub name_of_source : SourceFault → List ℕ
name_of_source (faults.Lex fault) = name_of_lex fault
name_of_source (faults.Parse fault) = fault_name fault
name_of_source (faults.Resolve fault) = name_of_fault fault

-- the byte offset; a source that is too long has none
abbrev pub place_of_source : SourceFault → Option ℕ
place_of_source (faults.Lex fault) = place_of_lex fault
place_of_source (faults.Parse fault) = Some (fault_span fault).start
place_of_source (faults.Resolve fault) = Some (place_of_fault fault)
