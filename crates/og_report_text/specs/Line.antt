-- The line of a refusal.
use Rattle.std.specs.Prelude.{ℕ, List, Option, Some, None, codes}
use Rattle.std.specs.Fmt.{decimal}
use Rattle.og_typed.specs.SourceFaults.{number_of_source, name_of_source, place_of_source}
use Rattle.og_cert_text.specs.Faults.{text_fault_number, text_fault_name, text_fault_line}
use Rattle.og_report_text.specs.Places.{◌&◌, position_of, position_text}
use Rattle.og_report_text.specs.declared.fault.InputFault.{InputFault}
use Rattle.og_report_text.specs.declared.fault.InputFault.TheVariants as faults

-- refused: NUMBER NAME
abbrev pub opening_text : ℕ → List ℕ → List ℕ
opening_text number name = codes "refused: " & decimal number & codes " " & name

-- the place in the source, where there is one
abbrev pub place_text : List ℕ → Option ℕ → List ℕ
place_text source None = codes "\n"
place_text source (Some at) = codes " at " & position_text (position_of source at) & codes "\n"

-- the line of the certificates, where there is one
abbrev pub line_text : Option ℕ → List ℕ
line_text None = codes "\n"
line_text (Some line) = codes " at line " & decimal line & codes "\n"

abbrev pub stray_text : ℕ → List ℕ
stray_text n = opening_text 25 (codes "Stray") & codes " condition " & decimal n & codes "\n"

abbrev pub refused_line : List ℕ → InputFault → List ℕ
refused_line source (faults.Source f) = opening_text (number_of_source f) (name_of_source f) & place_text source (place_of_source f)
refused_line source (faults.Conditions f) = opening_text 18 (codes "TooManyConditions") & place_text source None
refused_line source (faults.Certs f) = opening_text (text_fault_number f) (text_fault_name f) & line_text (text_fault_line f)
refused_line source (faults.Stray n) = stray_text n
