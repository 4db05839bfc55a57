-- The number and the name of a fault, and where in the template it stands.
use Rattle.std.specs.Prelude.{ℕ, List, Option, Some, None, codes}
use Rattle.og_typed.specs.SourceFaults.{number_of_source, name_of_source, place_of_source}
use Rattle.og_typed.specs.declared.source_fault.SourceFault.TheVariants as sources
use Rattle.og_template.specs.Faults.{number_of_kind, name_of_kind}
use Rattle.og_template_outline.specs.declared.fault.ExpandFault.{ExpandFault}
use Rattle.og_template_outline.specs.declared.fault.ExpandFault.TheVariants as faults

abbrev pub number_of_fault : ExpandFault → ℕ
number_of_fault (faults.Words fault) = number_of_source (sources.Lex fault)
number_of_fault (faults.Template fault) = number_of_kind fault.kind
number_of_fault (faults.Outline fault) = number_of_source (sources.Resolve fault)
number_of_fault faults.ExpansionTooLong = 78
number_of_fault faults.NotReadBack = 80

abbrev pub name_of_fault : ExpandFault → List ℕ
name_of_fault (faults.Words fault) = name_of_source (sources.Lex fault)
name_of_fault (faults.Template fault) = name_of_kind fault.kind
name_of_fault (faults.Outline fault) = name_of_source (sources.Resolve fault)
name_of_fault faults.ExpansionTooLong = codes "ExpansionTooLong"
name_of_fault faults.NotReadBack = codes "NotReadBack"

-- the byte offset; a text too long, or not read back, has none
abbrev pub place_of_fault : ExpandFault → Option ℕ
place_of_fault (faults.Words fault) = place_of_source (sources.Lex fault)
place_of_fault (faults.Template fault) = Some fault.at
place_of_fault (faults.Outline fault) = place_of_source (sources.Resolve fault)
place_of_fault faults.ExpansionTooLong = None
place_of_fault faults.NotReadBack = None
