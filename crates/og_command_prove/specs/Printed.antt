-- What is printed of findings, in each form.
use Rattle.std.specs.Prelude.{◌≡◌, ℕ, true, false, List, [], ◌∷◌, ◌++◌, Option, Some, None}
use Rattle.og_report_html.specs.Lanes.{AreRunParts, about_text}
use Rattle.og_report_html.specs.Page.{page_text}
use Rattle.og_report_html.specs.Targets.{AreTargets}
use Rattle.og_report_html.specs.declared.target.Target.{Target}
use Rattle.og_report_findings.specs.Json.{json_text}
use Rattle.og_report_findings.specs.Report.{report_text}
use Rattle.og_report_findings.specs.Says.{SaysNeverStuck}
use Rattle.og_report_runs.specs.Report.{count_reached}
use Rattle.og_report_runs.specs.declared.lines.Explored.{Explored}
use Rattle.og_report_text.specs.Subject.{Subject}
use Rattle.og_command_prove.specs.Table.{Columns}
use Rattle.og_command_prove.specs.declared.form.ReportForm.{ReportForm}
use Rattle.og_command_prove.specs.declared.form.ReportForm.TheVariants as forms

-- a text, with places of the text that was given
abbrev pub text_in : Subject → Columns → List ℕ
text_in s c = report_text s.outline c.explored c.advice s.given s.rows c.conditions c.diagnoses c.runs

-- JSON without an LF, with places of the outline's own text
abbrev pub json_in : Subject → Columns → List ℕ
json_in s c = json_text s.outline s.own c.explored c.conditions c.diagnoses c.runs

-- what stands on a page before the blocks of the conditions, and beneath each: how far runs were
-- followed, and whether one gets there; nothing where none were
abbrev pub IsAddedBy : Option Explored → Subject → Columns → List ℕ → List (List ℕ) → Type 0
IsAddedBy None s c before beneath = (before ≡ []) × (beneath ≡ [])
IsAddedBy (Some e) s c before beneath =
    (before ≡ about_text e (count_reached c.runs))
    × AreRunParts s.outline s.own e 1 c.diagnoses c.runs beneath

abbrev pub IsAdded : Subject → Columns → List ℕ → List (List ℕ) → Type 0
IsAdded s c before beneath = IsAddedBy c.explored s c before beneath

-- a page of the text that was given, by a name, with each condition where it belongs, and with that
pub record IsPage (name : List ℕ) (s : Subject) (c : Columns) (text : List ℕ) : Type 0 where
  pub targets : List Target
  pub before : List ℕ
  pub beneath : List (List ℕ)
  pub places : AreTargets s.outline c.conditions targets
  pub added : IsAdded s c before beneath
  pub page : text ≡ page_text name s c.explored before beneath c.conditions c.diagnoses c.runs targets

abbrev pub IsPrinted : ReportForm → Subject → Columns → List ℕ → Type 0
IsPrinted forms.Text s c text = text ≡ text_in s c
IsPrinted forms.Advised s c text = text ≡ text_in s c
IsPrinted forms.Json s c text = text ≡ json_in s c ++ 10 ∷ []
IsPrinted (forms.Page name) s c text = IsPage name.now s c text

-- the verdict of the text is that no run gets stuck; of a page nothing is said here
abbrev pub SaysNeverStuckIn : ReportForm → List ℕ → Type 0
SaysNeverStuckIn forms.Text text = SaysNeverStuck false text
SaysNeverStuckIn forms.Advised text = SaysNeverStuck false text
SaysNeverStuckIn forms.Json text = SaysNeverStuck true text
SaysNeverStuckIn (forms.Page name) text = ⊥
