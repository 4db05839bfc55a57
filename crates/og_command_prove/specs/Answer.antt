-- What is answered for an outline, and what its status says.
use Rattle.std.specs.Prelude.{◌≡◌, ◌≤◌, ℕ, Bool, true, if◌then◌else◌, List, length, Option, Vec}
use Rattle.std.specs.Global.{Global}
use Rattle.og_typed.specs.Erase.{erased}
use Rattle.og_cond.specs.Conditions.{conditions}
use Rattle.og_cond.specs.Limits.{condition_limit}
use Rattle.og_report_prove.specs.Report.{is_safe, is_unblocked}
use Rattle.og_report_prove.specs.declared.diagnosis.Diagnosis.{Diagnosis}
use Rattle.og_report_runs.specs.declared.lines.Explored.{Explored}
use Rattle.og_report_runs.specs.declared.witness.Run.{Run}
use Rattle.og_report_text.specs.declared.answer.Answer.{Answer}
use Rattle.og_theorem.specs.NeverStuck.{IsNeverStuck}
use Rattle.og_theorem.specs.Sound.{IsSound, IsSoundErased}
use Rattle.og_report_findings.specs.Verdicts.{concluded}
use Rattle.og_report_findings.specs.declared.suggestion.Suggestion.{Suggestion}
use Rattle.og_command_prove.specs.Advice.{AreAdvised, HasAdvice}
use Rattle.og_command_prove.specs.Concluded.{IsConcluded}
use Rattle.og_command_prove.specs.Found.{IsAsked, AreFound}
use Rattle.og_command_prove.specs.Printed.{IsPrinted, SaysNeverStuckIn}
use Rattle.og_report_text.specs.Subject.{Subject}
use Rattle.og_command_prove.specs.declared.form.ReportForm.{ReportForm}

-- 0 where each condition but the last is proved, else 1
abbrev pub status_of : List Diagnosis → ℕ
status_of ts = if is_safe ts then 0 else 1

-- the findings on all conditions, in a form, with the runs to false ones or without
pub record IsReported (form : ReportForm) (runs : Bool) (s : Subject)
    (answer : Answer) : Type 0 where
  pub few : length (conditions s.outline) ≤ condition_limit
  pub diagnoses : List Diagnosis
  -- what is said of runs
  pub said : List Run
  pub explored : Option Explored
  pub asked : IsAsked runs diagnoses explored
  pub found : AreFound s.outline (conditions s.outline) diagnoses said explored
  pub advice : List (Vec Suggestion Global)
  pub advised : AreAdvised (conditions s.outline) diagnoses advice
  pub in_form : HasAdvice form advice
  pub printed : IsPrinted form s (record {
    conditions = conditions s.outline;
    diagnoses = diagnoses;
    runs = said;
    explored = explored;
    advice = advice;
  }) answer.text.items
  pub status : answer.status ≡ status_of diagnoses
  -- with status 0 every run of the outline is as promised
  pub sound : answer.status ≡ 0 → IsSound s.outline × IsSoundErased s.outline
  -- and where the last condition is proved too, none gets stuck
  pub unblocked : answer.status ≡ 0 → is_unblocked diagnoses ≡ true
      → IsNeverStuck s.outline × IsNeverStuck (erased s.outline)
  -- as it is where the text says so
  pub says : SaysNeverStuckIn form answer.text.items → is_unblocked diagnoses ≡ true
  -- and what the verdict says is so
  pub verdict : IsConcluded s.outline found.lists (concluded diagnoses explored)
