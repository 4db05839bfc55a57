-- The outline that a text means, source or template, with the words behind it; or the outcome where it
-- means none.
use Rattle.std.specs.Prelude.{◌≡◌, ◌⊎◌, ℕ, List, [], IfSome, Option, option_map, None, Some}
use Rattle.og_report_findings.specs.Refused.{refusal_line}
use Rattle.og_report_refusal.specs.Expansion.{IsShownReason, IsExpansionRemark}
use Rattle.og_report_text.specs.Answers.{Says}
use Rattle.og_report_text.specs.Places.{position_of}
use Rattle.og_report_text.specs.Subject.{Subject}
use Rattle.og_report_text.specs.declared.fault.InputFault.TheVariants as faults
use Rattle.og_template_outline.specs.Expanded.{IsFaultAnswer}
use Rattle.og_template_outline.specs.Faults.{number_of_fault, name_of_fault, place_of_fault}
use Rattle.og_template_outline.specs.Meaning.{Means, GivesStarts, IsReading, IsNotMeant}
use Rattle.og_template_outline.specs.declared.fault.ExpandFault.{ExpandFault}
use Rattle.og_template_outline.specs.declared.fault.MeaningError.{MeaningError}
use Rattle.og_template_outline.specs.declared.fault.MeaningError.TheVariants as errors
use Rattle.og_template_outline.specs.declared.meaning.Takes.{Takes}
use Rattle.og_command_check.specs.Inputs.{source_of}
use Rattle.og_program.specs.World.{World, Text, bytes_in, OfSource}
use Rattle.og_program.specs.Beside.{Noted, OnReport, OnBadValue, IsRefusal, IsJsonRefusal}
use Rattle.og_program.specs.declared.given.Given.{Given}
use Rattle.og_program.specs.declared.outcome.Outcome.{Outcome}
use Rattle.og_program.specs.declared.outcome.Report.{Report}

-- what was read
abbrev pub IsGiven : Takes → World → List ℕ → List (List ℕ) → Given → Type 0
IsGiven takes world name words given =
    IfSome (bytes_in world name) (λ all. given.text.items ≡ source_of all)
    × IsReading takes given.text.items words given.reading

-- why a template means no outline
abbrev pub IsExpansionNote : Text → ExpandFault → Option (List ℕ) → Type 0
IsExpansionNote template fault None = ⊥
IsExpansionNote template fault (Some text) =
    IsExpansionRemark template.name template.bytes fault text

-- the line of the fault of a template with status 2, and that beside it
pub record IsTemplateRefusal (template : Text) (fault : ExpandFault) (report : Report) : Type 0 where
  pub line : IsFaultAnswer template.bytes fault report.answer
  pub why : Noted (IsExpansionNote template fault) report

-- the refusal of a source or of a template; of a word that gives no constant a value no line says
-- why; refused memory has no outcome
abbrev pub FollowsError : Text → MeaningError → Outcome → Type 0
FollowsError text errors.Memory outcome = ⊥
FollowsError text (errors.Source fault) outcome =
    OnReport (IsRefusal text [] (faults.Source fault)) outcome
FollowsError text (errors.Template fault) outcome =
    OnReport (IsTemplateRefusal text fault) outcome
FollowsError text (errors.BadValue word) outcome = OnBadValue (λ _ _. ⊥) word outcome

abbrev pub HasNoMeaning : Takes → Text → List (List ℕ) → Outcome → Type 0
HasNoMeaning takes text words outcome =
    (error : MeaningError) × IsNotMeant takes text.bytes words error
    × FollowsError text error outcome

abbrev pub MeansNone : Takes → World → List ℕ → List (List ℕ) → Outcome → Type 0
MeansNone takes world name words outcome =
    OfSource world name (λ text. HasNoMeaning takes text words outcome)

-- P of the outline that the text means, in its texts, and of the words that give starts
abbrev pub OnMeaning : Takes → List (List ℕ) → (Text → Subject → List (List ℕ) → Type 0) → Text → Type 0
OnMeaning takes words P text =
    (s : Subject) × (starts : List (List ℕ)) × Means text.bytes s
    × GivesStarts takes text.bytes words starts × P text s starts

-- that; or why the text means no outline
abbrev pub OfMeaning : Takes → World → List ℕ → List (List ℕ)
    → (Text → Subject → List (List ℕ) → Outcome → Type 0) → Outcome → Type 0
OfMeaning takes world name words P outcome =
    OfSource world name
    (λ text. OnMeaning takes words (λ t s starts. P t s starts outcome) text
    ⊎ HasNoMeaning takes text words outcome)

-- ---- with refusals as JSON

-- the object of the fault of a template with status 2, and that beside it
pub record IsJsonTemplateRefusal (template : Text) (fault : ExpandFault) (report : Report) : Type 0 where
  pub reason : List ℕ
  pub is_reason : IsShownReason template.bytes fault reason
  pub help : Option (List ℕ)
  pub object : Says (refusal_line (number_of_fault fault) (name_of_fault fault) (option_map (position_of template.bytes) (place_of_fault fault)) reason help) 2 report.answer
  pub why : Noted (IsExpansionNote template fault) report

abbrev pub FollowsErrorAsJson : Text → MeaningError → Outcome → Type 0
FollowsErrorAsJson text errors.Memory outcome = ⊥
FollowsErrorAsJson text (errors.Source fault) outcome =
    OnReport (IsJsonRefusal text (faults.Source fault)) outcome
FollowsErrorAsJson text (errors.Template fault) outcome =
    OnReport (IsJsonTemplateRefusal text fault) outcome
FollowsErrorAsJson text (errors.BadValue word) outcome = OnBadValue (λ _ _. ⊥) word outcome

abbrev pub HasNoMeaningAsJson : Takes → Text → List (List ℕ) → Outcome → Type 0
HasNoMeaningAsJson takes text words outcome =
    (error : MeaningError) × IsNotMeant takes text.bytes words error
    × FollowsErrorAsJson text error outcome

abbrev pub MeansNoneAsJson : Takes → World → List ℕ → List (List ℕ) → Outcome → Type 0
MeansNoneAsJson takes world name words outcome =
    OfSource world name (λ text. HasNoMeaningAsJson takes text words outcome)

abbrev pub OfMeaningAsJson : Takes → World → List ℕ → List (List ℕ)
    → (Text → Subject → List (List ℕ) → Outcome → Type 0) → Outcome → Type 0
OfMeaningAsJson takes world name words P outcome =
    OfSource world name
    (λ text. OnMeaning takes words (λ t s starts. P t s starts outcome) text
    ⊎ HasNoMeaningAsJson takes text words outcome)
