-- The number and the name of a fault, and where in the source it stands.
use Rattle.std.specs.Prelude.{ℕ, List, Option, None, codes}
use Rattle.og_typed.specs.SourceFaults.{number_of_source, name_of_source, place_of_source}
use Rattle.og_cert_text.specs.Faults.{text_fault_number, text_fault_name}
use Rattle.og_report_text.specs.declared.fault.InputFault.{InputFault}
use Rattle.og_report_text.specs.declared.fault.InputFault.TheVariants as faults

abbrev pub number_of_input : InputFault → ℕ
number_of_input (faults.Source fault) = number_of_source fault
number_of_input (faults.Conditions fault) = 18
number_of_input (faults.Certs fault) = text_fault_number fault
number_of_input (faults.Stray n) = 25

abbrev pub name_of_input : InputFault → List ℕ
name_of_input (faults.Source fault) = name_of_source fault
name_of_input (faults.Conditions fault) = codes "TooManyConditions"
name_of_input (faults.Certs fault) = text_fault_name fault
name_of_input (faults.Stray n) = codes "Stray"

-- the byte offset in the source, where there is one
abbrev pub place_of_input : InputFault → Option ℕ
place_of_input (faults.Source fault) = place_of_source fault
place_of_input (faults.Conditions fault) = None
place_of_input (faults.Certs fault) = None
place_of_input (faults.Stray n) = None
