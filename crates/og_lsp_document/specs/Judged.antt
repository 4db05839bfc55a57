-- What is found of a text.
use Rattle.std.specs.Prelude.{◌≡◌, ◌⊎◌, ℕ, ◌<◌, List, [], ◌∷◌, length, count_by, Option, Some, None, true, false, ⊤}
use Rattle.og_typed.specs.Refused.{IsSourceFault}
use Rattle.og_typed.specs.declared.source_fault.SourceFault.{SourceFault}
use Rattle.og_cond.specs.Conditions.{conditions}
use Rattle.og_cond.specs.Limits.{condition_limit}
use Rattle.og_cond.specs.declared.fault.TooMany.{TooMany}
use Rattle.og_report_text.specs.Origins.{Rows}
use Rattle.og_report_text.specs.Subject.{Subject}
use Rattle.og_report_text.specs.declared.fault.InputFault.TheVariants as inputs
use Rattle.og_report_prove.specs.Diagnosis.{AreDiagnoses}
use Rattle.og_report_prove.specs.Report.{is_false, is_open, is_safe, is_unblocked}
use Rattle.og_report_prove.specs.declared.diagnosis.Diagnosis.{Diagnosis}
use Rattle.og_report_findings.specs.Causes.{shown, groups}
use Rattle.og_report_findings.specs.Entries.{unproved_from}
use Rattle.og_template.specs.Front.{is_template}
use Rattle.og_template_outline.specs.Meaning.{Means}
use Rattle.og_template_outline.specs.declared.fault.ExpandFault.{ExpandFault}
use Rattle.og_lsp_diagnostics.specs.Extents.{LiesIn, AreSaidIn, part_span, place_in}
use Rattle.og_lsp_document.specs.Parts.{asked, AreIn, AreParts}
use Rattle.og_lsp_document.specs.Reviewed.{AreReviewed}
use Rattle.og_lsp_diagnostics.specs.Refusals.{IsOfSource, IsOfTemplate}
use Rattle.og_lsp_document.specs.Stepping.{AreStatements, AreStatementsIn}
use Rattle.og_lsp_diagnostics.specs.Said.{no_runs, AreOfGroups}
use Rattle.og_lsp_diagnostics.specs.declared.diagnostic.Diagnostic.{Diagnostic}
use Rattle.og_lsp_document.specs.declared.judged.Judgement.{Judgement}
use Rattle.og_lsp_document.specs.declared.judged.Summary.{Summary}

-- ---- a text that is refused

-- this diagnostic, and nothing else
pub record IsAlone (d : Diagnostic) (j : Judgement) : Type 0 where
  pub diagnostics : j.diagnostics.items ≡ d ∷ []
  pub summary : j.summary ≡ None
  pub remarks : j.remarks.items ≡ []
  pub parts : j.parts.items ≡ []
  pub statements : j.statements.items ≡ []

-- one of which this is so
pub record IsOnly (Says : Diagnostic → Type 0) (j : Judgement) : Type 0 where
  pub diagnostic : Diagnostic
  pub says : Says diagnostic
  pub alone : IsAlone diagnostic j

-- ---- an outline that was read

-- the counts of the findings on its conditions, at its `cobegin`
abbrev pub summary_at : List ℕ → Rows → ℕ → List Diagnosis → Summary
summary_at text rows at ts = record {
  cobegin = part_span text (place_in rows at);
  conditions = length ts;
  refuted = count_by is_false ts;
  still_open = count_by is_open ts;
  safe = is_safe ts;
  unblocked = is_unblocked ts;
}

abbrev pub summary_of : Subject → List Diagnosis → Summary
summary_of s ts = summary_at s.given s.rows s.outline.cobegin_at ts

-- what is said of its conditions, by findings on them that are so
pub record IsFound (s : Subject) (j : Judgement) : Type 0 where
  pub diagnoses : List Diagnosis
  pub are : AreDiagnoses s.outline (conditions s.outline) diagnoses
  pub summary : j.summary ≡ Some (summary_of s diagnoses)
  pub parts : AreParts s.given (asked s.rows (conditions s.outline) diagnoses) j.parts.items
  pub remarks : AreReviewed s.given s.rows s.outline j.remarks.items
  pub statements : AreStatements s.given s.rows s.outline (conditions s.outline) diagnoses j.statements.items
  pub said : AreOfGroups s.given s.rows (groups s.outline.names s.given s.rows (shown s.rows (unproved_from 1 (conditions s.outline) diagnoses (no_runs diagnoses)))) j.diagnostics.items

-- it has more conditions than are asked, or these are
abbrev pub IsAsked : Subject → Judgement → Type 0
IsAsked s j =
    ((fault : TooMany) × (condition_limit < length (conditions s.outline)) × IsOnly (IsOfSource s.given (inputs.Conditions fault)) j)
    ⊎ IsFound s j

-- ---- a text

-- the first fault of a source; a fault of a template; or what is found of the outline that it means
abbrev pub IsJudgement : List ℕ → Judgement → Type 0
IsJudgement text j =
    ((fault : SourceFault) × (is_template text ≡ false) × IsSourceFault text fault × IsOnly (IsOfSource text (inputs.Source fault)) j)
    ⊎ ((fault : ExpandFault) × (is_template text ≡ true) × IsOnly (IsOfTemplate text fault) j)
    ⊎ ((s : Subject) × Means text s × IsAsked s j)

-- all places of which it speaks lie within the text
abbrev pub IsCobeginIn : List ℕ → Option Summary → Type 0
IsCobeginIn text None = ⊤
IsCobeginIn text (Some summary) = LiesIn text summary.cobegin

pub record IsWithin (text : List ℕ) (j : Judgement) : Type 0 where
  pub diagnostics : AreSaidIn text j.diagnostics.items
  pub summary : IsCobeginIn text j.summary
  pub remarks : AreSaidIn text j.remarks.items
  pub parts : AreIn text j.parts.items
  pub statements : AreStatementsIn text j.statements.items
