-- What `run` answers, and in which order its faults come.
use Rattle.std.specs.Prelude.{◌≡◌, ◌≢◌, ◌⊎◌, ℕ, ℤ, Bool, true, false, if◌then◌else◌, List, codes, Option, option_map, None, Some, ⊤}
use Rattle.og_typed.specs.Syntax.{Program}
use Rattle.og_typed.specs.Erase.{erased}
use Rattle.og_theorem.specs.Sound.{IsSound, IsSoundErased}
use Rattle.og_step.specs.Starts.{start_fault}
use Rattle.og_step.specs.declared.fault.StartFault.{StartFault}
use Rattle.og_run.specs.Runs.{Given}
use Rattle.og_run.specs.Ends.{IsOutcome}
use Rattle.og_run.specs.declared.outcome.Outcome.{Outcome}
use Rattle.og_run.specs.Outcomes.{IsProvedOutcome}
use Rattle.og_run.specs.Faults.{number_of_fault, name_of_fault, fault_of_start}
use Rattle.og_run.specs.declared.fault.RunFault.{RunFault}
use Rattle.og_run.specs.declared.fault.RunFault.TheVariants as faults
use Rattle.og_run.specs.declared.fault.RunError.{RunError}
use Rattle.og_run.specs.declared.fault.RunError.TheVariants as errors
use Rattle.og_judge.specs.declared.entry.Entry.{Entry}
use Rattle.og_judge.specs.Entries.{AreEntries, is_safe, is_unblocked}
use Rattle.og_report_text.specs.Places.{◌&◌}
use Rattle.og_report_text.specs.Line.{opening_text}
use Rattle.og_report_text.specs.Answers.{Says}
use Rattle.og_report_text.specs.declared.answer.Answer.{Answer}
use Rattle.og_command_run.specs.Words.{Give, IsBadIn}
use Rattle.og_command_run.specs.Texts.{outcome_text, finish_status}
use Rattle.og_command_run.specs.Asked.{IsNote}
use Rattle.og_command_run.specs.declared.reply.Ran.{Ran}
use Rattle.og_command_run.specs.declared.reply.Reply.{Reply}
use Rattle.og_command_run.specs.declared.reply.Reply.TheVariants as replies

abbrev pub given : Program → List ℤ → ℕ → Given
given o values limit = record { outline = o; values = values; limit = limit }

abbrev pub fault_line : RunFault → List ℕ
fault_line fault = opening_text (number_of_fault fault) (name_of_fault fault) & codes "\n"

-- the values are no start
pub record StartsNot (g : Given) (a : Answer) : Type 0 where
  pub fault : StartFault
  pub refused : start_fault g.outline g.values ≡ Some fault
  pub answered : Says (fault_line (fault_of_start fault)) 2 a

-- the line of this fault
abbrev pub IsFaultAnswer : RunError → Answer → Type 0
IsFaultAnswer errors.Memory a = ⊥
IsFaultAnswer (errors.Fault faults.Spawn) a = ⊥
IsFaultAnswer (errors.Fault faults.NotPre) a = Says (fault_line faults.NotPre) 2 a
IsFaultAnswer (errors.Fault faults.WrongLength) a = Says (fault_line faults.WrongLength) 2 a

-- the text of an outcome of a run
pub record EndsAs (P : Outcome → Type 0) (g : Given) (a : Answer) : Type 0 where
  pub outcome : Outcome
  pub is : IsOutcome g outcome
  pub more : P outcome
  pub answered : Says (outcome_text g.outline outcome) (finish_status outcome.finish) a

-- the line for standard error, if there is one
abbrev pub note_of : Ran → Option (List ℕ)
note_of r = option_map (λ line. line.items) r.note

-- the answer, and no line
abbrev pub IsQuiet : (Answer → Type 0) → Ran → Type 0
IsQuiet P r = P r.answer × (note_of r ≡ None)

-- an outcome such as P, with the assertions asked along its history
abbrev pub EndsAsked : (Outcome → Type 0) → List ℕ → Given → Ran → Type 0
EndsAsked P source g r = EndsAs (λ outcome. P outcome × IsNote source g.outline g.values outcome.history.items (note_of r)) g r.answer

-- the outcome of a run, or why there is none
abbrev pub IsAnswer : List ℕ → Given → Ran → Type 0
IsAnswer source g r = IsQuiet (StartsNot g) r ⊎ EndsAsked (λ _. ⊤) source g r

-- the same, of an outline that was proved
abbrev pub IsAnswerProved : List ℕ → Given → Bool → Ran → Type 0
IsAnswerProved source g unblocked r = IsQuiet (StartsNot g) r ⊎ EndsAsked (IsProvedOutcome g unblocked) source g r

-- every run of the outline is as promised, with its auxiliaries and without them
abbrev pub IsProven : Program → Type 0
IsProven o = IsSound o × IsSoundErased o

-- where the texts are read, but not safe, that is said; else every run is as promised, and the values are no start, or the outcome of a run is reported
abbrev pub IsAnswerJudged : List ℕ → List Entry → Given → Ran → Type 0
IsAnswerJudged source entries g r =
    ((is_safe entries ≡ false) × IsQuiet (Says (codes "not safe\n") 1) r)
    ⊎ ((is_safe entries ≡ true) × IsProven g.outline × IsAnswerProved source g (is_unblocked entries) r)

-- ---- the order of the faults

-- P of the report of a run
abbrev pub OnRan : (Ran → Type 0) → Reply → Type 0
OnRan P (replies.Ran ran) = P ran
OnRan P (replies.BadValue word) = ⊥
OnRan P (replies.NotMade line) = ⊥

-- a word gives no value
abbrev pub IsEarly : Program → List (List ℕ) → Reply → Type 0
IsEarly o words (replies.BadValue word) = IsBadIn o words word.now
IsEarly o words _ = ⊥

-- the words give values, and P of these and of the reply
abbrev pub Goes : (List ℤ → Reply → Type 0) → Program → List (List ℕ) → Reply → Type 0
Goes P o words r = (values : List ℤ) × Give o words values × P values r

-- the program that runs: the outline, or it without auxiliaries
abbrev pub program_of : Bool → Program → Program
program_of without_auxiliaries o = if without_auxiliaries then erased o else o

-- the outcome of a run of an outline in this text, with its auxiliaries or without them
abbrev pub IsRan : Bool → ℕ → Program → List ℕ → List (List ℕ) → Reply → Type 0
IsRan without_auxiliaries limit o source words r =
    let program = program_of without_auxiliaries o in
    IsEarly o words r ⊎ Goes (λ values. OnRan (IsAnswer source (given program values limit))) o words r

-- the report of the judgement of an outline by certificates
abbrev pub IsJudged : List ℕ → List ℕ → Program → List ℤ → ℕ → Ran → Type 0
IsJudged source certs o values limit r =
    (entries : List Entry) × AreEntries certs o entries × IsAnswerJudged source entries (given o values limit) r

-- the outcome of a run of the outline, which the certificates prove safe
abbrev pub IsRanProved : ℕ → Program → List ℕ → List ℕ → List (List ℕ) → Reply → Type 0
IsRanProved limit o source certs words r =
    IsEarly o words r ⊎ Goes (λ values. OnRan (IsJudged source certs o values limit)) o words r

-- the answer is that of a run: its status is 0, or 1 with another text than `not safe`
abbrev pub IsOfRun : Reply → Type 0
IsOfRun (replies.Ran ran) = (ran.answer.status ≡ 0) ⊎ ((ran.answer.status ≡ 1) × (ran.answer.text.items ≢ codes "not safe\n"))
IsOfRun (replies.BadValue word) = ⊥
IsOfRun (replies.NotMade line) = ⊥
