-- What goes to standard error beside an answer or certificates, and which outcome a reply has.
use Rattle.std.specs.Prelude.{◌≡◌, ℕ, List, [], Option, option_map, None, Some, IfSome, Result, Ok, IfOk, Vec}
use Rattle.std.specs.Borrow.{Bor}
use Rattle.std.specs.Global.{Global}
use Rattle.std.specs.declared.alloc.AllocError.{AllocError}
use Rattle.og_judge.specs.declared.refusal.Refusal.{Refusal}
use Rattle.og_judge.specs.declared.refusal.Refusal.TheVariants as refusals
use Rattle.og_report_findings.specs.Refused.{refusal_line}
use Rattle.og_report_refusal.specs.Advice.{IsAdvice}
use Rattle.og_report_refusal.specs.Reasons.{IsReason}
use Rattle.og_report_text.specs.Answers.{IsFaultAnswer, Says}
use Rattle.og_report_text.specs.Faults.{number_of_input, name_of_input, place_of_input}
use Rattle.og_report_text.specs.Places.{position_of}
use Rattle.og_report_text.specs.declared.answer.Answer.{Answer}
use Rattle.og_report_text.specs.declared.fault.InputFault.{InputFault}
use Rattle.og_program.specs.World.{Text}
use Rattle.og_program.specs.declared.outcome.Certificates.{Certificates}
use Rattle.og_program.specs.declared.outcome.Outcome.{Outcome}
use Rattle.og_program.specs.declared.outcome.Outcome.TheVariants as outcomes
use Rattle.og_program.specs.declared.outcome.Report.{Report}

-- what goes to standard error, if anything does, is such as R says; or memory for it was refused
abbrev pub IsNote : (Option (List ℕ) → Type 0) → Result (Option (Vec ℕ Global)) AllocError → Type 0
IsNote R note = IfOk note (λ text. R (option_map (λ t. t.items) text))

abbrev pub Noted : (Option (List ℕ) → Type 0) → Report → Type 0
Noted R report = IsNote R report.note

-- ---- the refusal of input

-- where the fault of a source stands, why, and what to write
abbrev pub IsAdviceNote : Text → List ℕ → InputFault → Option (List ℕ) → Type 0
IsAdviceNote source certs fault None = ⊥
IsAdviceNote source certs fault (Some text) = IsAdvice source.name certs source.bytes fault text

-- of a source, and of certificates of this name, for a fault: its line with status 2, and that beside it
pub record IsRefusal (source : Text) (certs : List ℕ) (fault : InputFault) (report : Report) : Type 0 where
  pub line : IsFaultAnswer source.bytes fault report.answer
  pub why : Noted (IsAdviceNote source certs fault) report

-- the same as JSON: its object with status 2, and that beside it
pub record IsJsonRefusal (source : Text) (fault : InputFault) (report : Report) : Type 0 where
  pub reason : List ℕ
  pub is_reason : IsReason source.bytes fault reason
  pub help : Option (List ℕ)
  pub object : Says (refusal_line (number_of_input fault) (name_of_input fault) (option_map (position_of source.bytes) (place_of_input fault)) reason help) 2 report.answer
  pub why : Noted (IsAdviceNote source [] fault) report

-- ---- an outcome of one kind, such as P says

abbrev pub OnReport : (Report → Type 0) → Outcome → Type 0
OnReport P (outcomes.Report report) = P report
OnReport P _ = ⊥

abbrev pub OnCertificates : (Certificates → Type 0) → Outcome → Type 0
OnCertificates P (outcomes.Certificates certs) = P certs
OnCertificates P _ = ⊥

-- the word that gives no value, and where a line says why, it is such as V says
abbrev pub OnBadValue : (List ℕ → List ℕ → Type 0) → Bor (List ℕ) → Outcome → Type 0
OnBadValue V word (outcomes.BadValue bad) =
    (bad.word ≡ word) × IfSome bad.why (λ line. V word.now line.items)
OnBadValue V word _ = ⊥

-- ---- an answer

-- this one, and nothing beside it
abbrev pub Answers : Answer → Outcome → Type 0
Answers answer = OnReport (λ report. (report.answer ≡ answer) × (report.note ≡ Ok None))

-- this one, and beside it what R says
abbrev pub Remarks : (Option (List ℕ) → Type 0) → Answer → Outcome → Type 0
Remarks R answer = OnReport (λ report. (report.answer ≡ answer) × Noted R report)

-- ---- what a refusal of input becomes

-- the refusal for this fault; refused memory or a refused thread has no outcome
abbrev pub IsRefused : Text → List ℕ → Refusal → Outcome → Type 0
IsRefused source certs (refusals.Input fault) outcome =
    OnReport (IsRefusal source certs fault) outcome
IsRefused source certs refusals.Spawn outcome = ⊥
IsRefused source certs refusals.Memory outcome = ⊥

-- the refusal for a fault such as F says
abbrev pub Refuses : (InputFault → Type 0) → Text → List ℕ → Outcome → Type 0
Refuses F source certs outcome =
    (fault : InputFault) × F fault × OnReport (IsRefusal source certs fault) outcome

abbrev pub RefusesAsJson : (InputFault → Type 0) → Text → Outcome → Type 0
RefusesAsJson F source outcome =
    (fault : InputFault) × F fault × OnReport (IsJsonRefusal source fault) outcome
