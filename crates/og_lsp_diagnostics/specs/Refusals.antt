-- What is said of a text that is refused.
use Rattle.std.specs.Prelude.{◌≡◌, ℕ, ◌^◌, ◌≤◌, List, [], length, codes, Option, None, Some, IfSome, IsSome, IsTrue}
use Rattle.std.specs.Fmt.{decimal}
use Rattle.og_text.specs.declared.place.Span.{Span}
use Rattle.og_report_text.specs.Places.{◌&◌}
use Rattle.og_report_text.specs.Faults.{number_of_input, name_of_input, place_of_input}
use Rattle.og_report_text.specs.declared.fault.InputFault.{InputFault}
use Rattle.og_report_refusal.specs.Advice.{is_one_line}
use Rattle.og_report_refusal.specs.Reasons.{IsReason}
use Rattle.og_report_refusal.specs.Expansion.{IsShownReason}
use Rattle.og_template_outline.specs.Faults.{number_of_fault, name_of_fault, place_of_fault}
use Rattle.og_template_outline.specs.declared.fault.ExpandFault.{ExpandFault}
use Rattle.og_lsp_diagnostics.specs.Extents.{word_span}
use Rattle.og_lsp_diagnostics.specs.declared.diagnostic.Diagnostic.{Diagnostic}
use Rattle.og_lsp_diagnostics.specs.declared.diagnostic.Severity.TheVariants as severities

-- a number and a name
abbrev pub code_text : ℕ → List ℕ → List ℕ
code_text number name = decimal number & codes " " & name

-- a line of advice, where there is one
abbrev pub help_text : Option (List ℕ) → List ℕ
help_text None = []
help_text (Some help) = codes "\nhelp: " & help

-- the word at its place, or the front of the text
abbrev pub span_at : List ℕ → Option ℕ → Span
span_at text None = record { start = 0; end = 0 }
span_at text (Some at) = word_span text at

-- a reason, and at most one line of advice
pub record IsAdvised (Reason : List ℕ → Type 0) (message : List ℕ) : Type 0 where
  pub reason : List ℕ
  pub is_reason : Reason reason
  pub help : Option (List ℕ)
  pub one_line : IfSome help (λ text. IsTrue (is_one_line text))
  pub written : message ≡ reason & help_text help

-- the refusal with its number and name, at its place, with why
pub record IsRefusal (text : List ℕ) (number : ℕ) (name : List ℕ) (place : Option ℕ) (Reason : List ℕ → Type 0) (d : Diagnostic) : Type 0 where
  pub span : d.span ≡ span_at text place
  pub severity : d.severity ≡ severities.Error
  pub code : d.code.items ≡ code_text number name
  pub message : IsAdvised Reason d.message.items
  pub related : d.related.items ≡ []

-- of a source
abbrev pub IsOfSource : List ℕ → InputFault → Diagnostic → Type 0
IsOfSource text fault = IsRefusal text (number_of_input fault) (name_of_input fault) (place_of_input fault) (IsReason text fault)

-- of a template
abbrev pub IsOfTemplate : List ℕ → ExpandFault → Diagnostic → Type 0
IsOfTemplate text fault = IsRefusal text (number_of_fault fault) (name_of_fault fault) (place_of_fault fault) (IsShownReason text fault)

-- a place is told only of a text that is no longer than sources are
abbrev pub IsPlaced : List ℕ → Option ℕ → Type 0
IsPlaced text place = IsSome place → length text ≤ 2 ^ 20
