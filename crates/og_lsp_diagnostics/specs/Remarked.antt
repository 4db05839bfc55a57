-- What is said of what an outline claims of no run, and of whatever else a reviewer is told.
use Rattle.std.specs.Prelude.{◌≡◌, ℕ, List, [], codes}
use Rattle.std.specs.List.{AllZip}
use Rattle.og_typed.specs.Syntax.{Program}
use Rattle.og_command_notes.specs.Remarks.{AreRemarks}
use Rattle.og_command_notes.specs.declared.remarking.Remark.{Remark}
use Rattle.og_report_text.specs.Origins.{Rows}
use Rattle.og_text.specs.declared.place.Span.{Span}
use Rattle.og_lsp_diagnostics.specs.Extents.{part_span, place_in}
use Rattle.og_lsp_diagnostics.specs.declared.diagnostic.Diagnostic.{Diagnostic}
use Rattle.og_lsp_diagnostics.specs.declared.diagnostic.Severity.TheVariants as severities

-- an information about some bytes, in these words
pub record IsInformation (span : Span) (message : List ℕ) (d : Diagnostic) : Type 0 where
  pub span_is : d.span ≡ span
  pub severity : d.severity ≡ severities.Information
  pub code : d.code.items ≡ codes "notes"
  pub message_is : d.message.items ≡ message
  pub related : d.related.items ≡ []

-- at the part of a remark, in its words
abbrev pub IsOfRemark : List ℕ → Rows → Remark → Diagnostic → Type 0
IsOfRemark text rows r = IsInformation (part_span text (place_in rows r.at)) r.text.items

-- one of each remark on the outline
abbrev pub AreOfRemarks : List ℕ → Rows → Program → List Diagnostic → Type 0
AreOfRemarks text rows o ds = (remarks : List Remark) × AreRemarks o remarks × AllZip (IsOfRemark text rows) remarks ds
