-- What is promised of a completed outline.
use Rattle.std.specs.Prelude.{◌≡◌, ℕ, Bool, false, List, All, Contains}
use Rattle.og_typed.specs.Syntax.{Program}
use Rattle.og_typed.specs.Source.{IsSource}
use Rattle.og_completion.specs.Completes.{Completes}
use Rattle.og_report_text.specs.Subject.{Subject, in_own_text}
use Rattle.og_report_text.specs.declared.answer.Answer.{Answer}
use Rattle.og_command_prove.specs.Answer.{IsReported}
use Rattle.og_command_prove.specs.Reply.{WarrantsAnswer}
use Rattle.og_command_prove.specs.declared.form.ReportForm.{ReportForm}
use Rattle.og_infer_marks.specs.Edits.{edited}
use Rattle.og_command_infer.specs.Edits.{IsInBraces}
use Rattle.og_command_infer.specs.declared.inferrer.Inferred.{Inferred}
use Rattle.og_command_infer.specs.declared.inferrer.Reply.{Reply}
use Rattle.og_command_infer.specs.declared.inferrer.Reply.TheVariants as replies

-- what `prove` reports of an outline in its own text; status 0 says that every run is as promised,
-- and a report with the verdict that none gets stuck, that none does
pub record IsJudged (form : ReportForm) (o : Program) (text : List ℕ) (report : Answer) : Type 0 where
  pub reported : IsReported form false (in_own_text o text) report
  pub warrants : WarrantsAnswer form o report

-- a text of an outline that completes the given one, and what `prove` reports of it
pub record IsCompletion (form : ReportForm) (o : Program) (text : List ℕ) (report : Answer) : Type 0 where
  pub outline : Program
  pub source : IsSource text outline
  pub completes : Completes outline o
  pub judged : IsJudged form outline text report
  -- what the report says of that outline holds of the given one too
  pub warrants : WarrantsAnswer form o report

-- the outline of a subject, completed by edits of its text; in its notes alone where no auxiliary
-- may be added
pub record IsCompleted (form : ReportForm) (aux : Bool) (s : Subject) (i : Inferred) : Type 0 where
  pub text : i.text.items ≡ edited i.edits.items 0 s.own
  pub edits : aux ≡ false → All (IsInBraces s.own) i.edits.items
  pub completion : IsCompletion form s.outline i.text.items i.report

-- that; or one of the words, which gives no variable a range
abbrev pub IsReply : ReportForm → Bool → Subject → List (List ℕ) → Reply → Type 0
IsReply form aux s words (replies.Inferred i) = IsCompleted form aux s i
IsReply form aux s words (replies.BadValue word) = Contains words word.now
