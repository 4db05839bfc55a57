-- What is printed for a source and certificates, and the status.
use Rattle.std.specs.Prelude.{◌≡◌, ◌⊎◌, ℕ, Bool, true, false, if◌then◌else◌, List, [], ◌∷◌, ◌++◌, length, count_by}
use Rattle.og_typed.specs.Syntax.{Program}
use Rattle.og_judge.specs.declared.entry.Entry.{Entry}
use Rattle.og_judge.specs.Entries.{is_safe}
use Rattle.og_judge.specs.Report.{IsReport, IsRefused}
use Rattle.og_report.specs.Report.{report_text}
use Rattle.og_report.specs.Json.{json_text}
use Rattle.og_find.specs.declared.counting.Missing.{Missing}
use Rattle.og_pool.specs.declared.status.Status.{Status}
use Rattle.og_pool.specs.declared.status.Status.TheVariants as status
use Rattle.og_report_text.specs.Line.{refused_line}
use Rattle.og_report_text.specs.Answers.{Says}
use Rattle.og_command_check.specs.declared.answer.CheckReply.{CheckReply}
use Rattle.og_report_text.specs.declared.answer.Answer.{Answer}
use Rattle.og_report_text.specs.declared.fault.InputFault.{InputFault}

-- JSON with an LF, or text
abbrev pub report_in : Bool → List ℕ → List Entry → List ℕ
report_in true source entries = json_text source entries ++ 10 ∷ []
report_in false source entries = report_text source entries

abbrev pub is_missing : Status → Bool
is_missing status.Missing = true
is_missing _ = false

abbrev pub status_of : List Entry → ℕ
status_of entries = if is_safe entries then 0 else 1

-- how many entries have no certificate, of how many
abbrev pub missing_in : List Entry → Missing
missing_in entries = record {
  count = count_by (λ e. is_missing e.status) entries;
  conditions = length entries;
}

-- the report of the entries, and how many of them have no certificate
abbrev pub Reports : Bool → List ℕ → List Entry → CheckReply → Type 0
Reports json source entries checked =
    Says (report_in json source entries) (status_of entries) checked.answer
    × (checked.missing ≡ missing_in entries)

-- of the source by the certificates
pub record IsReported (json : Bool) (source certs : List ℕ) (checked : CheckReply) : Type 0 where
  pub outline : Program
  pub entries : List Entry
  pub found : IsReport source certs outline entries
  pub reports : Reports json source entries checked

-- a report, with status 0 where it is safe and 1 where it is not
pub record IsJudged (json : Bool) (source certs text : List ℕ) (status : ℕ) : Type 0 where
  pub outline : Program
  pub entries : List Entry
  pub report : IsReport source certs outline entries
  pub printed : text ≡ report_in json source entries
  pub answered : status ≡ status_of entries

-- the line of a refusal, with status 2
pub record IsTurnedDown (source certs text : List ℕ) (status : ℕ) : Type 0 where
  pub why : InputFault
  pub refused : IsRefused source certs why
  pub printed : text ≡ refused_line source why
  pub answered : status ≡ 2

-- the report, or the line of the first refusal
abbrev pub IsOutput : Bool → List ℕ → List ℕ → List ℕ → ℕ → Type 0
IsOutput json source certs text status =
    IsJudged json source certs text status ⊎ IsTurnedDown source certs text status

abbrev pub IsChecked : Bool → List ℕ → List ℕ → Answer → Type 0
IsChecked json source certs answer = IsOutput json source certs answer.text.items answer.status
