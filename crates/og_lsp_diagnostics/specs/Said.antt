-- What is said of the conditions of an outline that are not proved: one diagnostic for each open one,
-- and one for all false ones in which the same action makes the same conjuncts false.
use Rattle.std.specs.Prelude.{◌≡◌, ℕ, ◌≤◌, ◌^◌, List, [], ◌∷◌, ◌++◌, length, map, codes, ⊤}
use Rattle.std.specs.List.{AllZip}
use Rattle.og_text.specs.declared.place.Span.{Span}
use Rattle.og_cond.specs.Names.{name_of_kind}
use Rattle.og_report_text.specs.Places.{◌&◌}
use Rattle.og_report_text.specs.Origins.{Rows}
use Rattle.og_report_prove.specs.declared.diagnosis.Diagnosis.{Diagnosis}
use Rattle.og_report_prove.specs.declared.diagnosis.Diagnosis.TheVariants as diagnosis
use Rattle.og_report_prove.specs.declared.reporting.Page.{Page}
use Rattle.og_report_runs.specs.declared.witness.Run.{Run}
use Rattle.og_report_runs.specs.declared.witness.Run.TheVariants as run
use Rattle.og_report_findings.specs.Entries.{Entry}
use Rattle.og_report_findings.specs.Causes.{Item}
use Rattle.og_lsp_diagnostics.specs.Extents.{part_span, place_in}
use Rattle.og_lsp_diagnostics.specs.Refusals.{code_text}
use Rattle.og_lsp_diagnostics.specs.declared.diagnostic.Diagnostic.{Diagnostic}
use Rattle.og_lsp_diagnostics.specs.declared.diagnostic.Related.{Related}
use Rattle.og_lsp_diagnostics.specs.declared.diagnostic.Severity.{Severity}
use Rattle.og_lsp_diagnostics.specs.declared.diagnostic.Severity.TheVariants as severities

-- ---- what it is told with

abbrev pub text_of : Page → List ℕ
text_of page = page.origins.now.source.now

abbrev pub rows_of : Page → Rows
rows_of page = page.origins.now.rows

-- places are printed as those of the text, which is as short as sources are
pub record IsSheet (page : Page) : Type 0 where
  pub places : page.origins.now.places.now ≡ page.origins.now.source.now
  pub short : length page.origins.now.source.now ≤ 2 ^ 20

-- ---- what is said

-- of runs nothing is asked
abbrev pub no_runs : List Diagnosis → List Run
no_runs = map (λ t. run.Open)

-- an error where the condition is false
abbrev pub severity_of : Diagnosis → Severity
severity_of diagnosis.Proved = severities.Warning
severity_of (diagnosis.False block) = severities.Error
severity_of diagnosis.Open = severities.Warning

-- the number of the condition and its kind
abbrev pub code_of : Entry → List ℕ
code_of e = code_text e.number (name_of_kind e.condition.kind)

-- some of the bytes
pub record StandsIn (part span : Span) : Type 0 where
  pub begin : part.start ≤ span.start
  pub order : span.start ≤ span.end
  pub end : span.end ≤ part.end

-- a diagnostic is of this condition, and stands at its part
pub record IsOf (text : List ℕ) (rows : Rows) (e : Entry) (d : Diagnostic) : Type 0 where
  pub severity : d.severity ≡ severity_of e.diagnosis
  pub code : d.code.items ≡ code_of e
  pub span : StandsIn (part_span text (place_in rows e.condition.at)) d.span

-- of one that is false as that condition is
abbrev pub alike_text : Entry → List ℕ
alike_text e = code_of e & codes ": false in the same way"

abbrev pub message_of : Related → List ℕ
message_of r = r.message.items

abbrev pub messages : Diagnostic → List (List ℕ)
messages d = map message_of d.related.items

-- the related messages end in a line for each of these
abbrev pub EndsIn : List Item → Diagnostic → Type 0
EndsIn others d = (own : List (List ℕ)) × (messages d ≡ own ++ map (λ (i : Item). alike_text i.entry) others)

-- of a group: of the first condition, with a line for each other
abbrev pub IsOfGroup : List ℕ → Rows → List Item → Diagnostic → Type 0
IsOfGroup text rows [] d = ⊥
IsOfGroup text rows (i ∷ others) d = IsOf text rows i.entry d × EndsIn others d

abbrev pub AreOfGroups : List ℕ → Rows → List (List Item) → List Diagnostic → Type 0
AreOfGroups text rows = AllZip (IsOfGroup text rows)

-- ---- the words of the contracts of private functions

-- a group has a first one
abbrev pub HasSome : List Item → Type 0
HasSome [] = ⊥
HasSome (i ∷ others) = ⊤

-- diagnostics of the groups that are left, behind these, are those of all of them
abbrev pub AreLeft : List ℕ → Rows → List (List Item) → List (List Item) → List Diagnostic → Type 0
AreLeft text rows left all ds = (more : List Diagnostic) → AreOfGroups text rows left more → AreOfGroups text rows all (ds ++ more)

abbrev pub alike_lines : List Item → List (List ℕ)
alike_lines = map (λ i. alike_text i.entry)
