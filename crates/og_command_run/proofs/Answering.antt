-- From the parts of an answer to the whole.
use Rattle.std.proofs.Common.{◌≡◌, ◌⊎◌, inl, inr, subst, sym, ℕ, ℤ, Bool, true, false, None, List, Result, Ok, Err, IfOk, IfErr, refl, take}
use Rattle.std.specs.Prelude.{⊤}
use Rattle.og_typed.specs.Syntax.{Program}
use Rattle.og_theorem.specs.Sound.{IsSound}
use Rattle.og_violation.specs.Along.{IsTrueAlong}
use Rattle.og_violation.specs.declared.violation.Wrong.TheVariants as wrong
use Rattle.og_step.specs.declared.fault.StartFault.TheVariants as starts
use Rattle.og_run.specs.Runs.{Given}
use Rattle.og_run.specs.Ends.{IsOutcome}
use Rattle.og_run.specs.declared.outcome.Outcome.{Outcome}
use Rattle.og_run.specs.Outcomes.{IsProvedOutcome}
use Rattle.og_run.specs.Answered.{Runs}
use Rattle.og_run.specs.declared.fault.RunFault.TheVariants as faults
use Rattle.og_run.specs.declared.fault.RunError.{RunError}
use Rattle.og_run.specs.declared.fault.RunError.TheVariants as errors
use Rattle.og_report_text.specs.Answers.{Says}
use Rattle.og_report_text.specs.declared.answer.Answer.{Answer}
use Rattle.og_command_run.specs.Texts.{outcome_text, finish_status}
use Rattle.og_command_run.specs.Asked.{IsNote}
use Rattle.og_command_run.specs.declared.reply.Ran.{Ran}
use Rattle.og_command_run.specs.Running.{note_of, IsQuiet, IsFaultAnswer, StartsNot, EndsAsked, IsAnswer, IsAnswerProved}

-- an answer with no line
abbrev pub quiet : Answer → Ran
quiet a = record { answer = a; note = None }

true_is_not_false : (b : Bool) → b ≡ true → b ≡ false → ⊥
true_is_not_false b holds fails = cc

-- ---- what came of a run

-- an outcome, or why there is none, with the assertions asked
ended_as : (P : Outcome → Type 0) (source : List ℕ) (g : Given) (ended : Result Outcome RunError) (ran : Ran) → Runs ended g → IfOk ended P
    → IfOk ended (λ o. IsNote source g.outline g.values o.history.items (note_of ran)) → IfErr ended (λ _. note_of ran ≡ None)
    → IfOk ended (λ o. Says (outcome_text g.outline o) (finish_status o.finish) ran.answer) → IfErr ended (λ e. IsFaultAnswer e ran.answer)
    → IsQuiet (StartsNot g) ran ⊎ EndsAsked P source g ran
ended_as P source g (Ok o) ran runs more note none answered refused = inr (record { outcome = o; is = runs; more = (more, note); answered = answered })
ended_as P source g (Err errors.Memory) ran runs more note none answered refused = absurd refused
ended_as P source g (Err (errors.Fault faults.Spawn)) ran runs more note none answered refused = absurd refused
ended_as P source g (Err (errors.Fault faults.NotPre)) ran runs more note none answered refused = inl (record { fault = starts.NotPre; refused = runs; answered = refused }, none)
ended_as P source g (Err (errors.Fault faults.WrongLength)) ran runs more note none answered refused = inl (record { fault = starts.WrongLength; refused = runs; answered = refused }, none)

all_ended : (ended : Result Outcome RunError) → IfOk ended (λ _. ⊤)
all_ended (Ok o) = tt
all_ended (Err e) = tt

pub run_answered : (source : List ℕ) (g : Given) (ended : Result Outcome RunError) (ran : Ran) → Runs ended g
    → IfOk ended (λ o. IsNote source g.outline g.values o.history.items (note_of ran)) → IfErr ended (λ _. note_of ran ≡ None)
    → IfOk ended (λ o. Says (outcome_text g.outline o) (finish_status o.finish) ran.answer) → IfErr ended (λ e. IsFaultAnswer e ran.answer) → IsAnswer source g ran
run_answered source g ended ran runs note none answered refused = ended_as (λ _. ⊤) source g ended ran runs (all_ended ended) note none answered refused

-- no assertion is false along a run of an outline that is as promised
true_along : (o : Program) (values : List ℤ) (history : List ℕ) → IsSound o → IsTrueAlong o values history
true_along o values history sound k (wrong.Assertion p) asked is =
    let holds = sound.current_holds is.last (values, take k history, is.begins, is.leads) p is.there.0 in absurd (true_is_not_false _ holds is.there.1)
true_along o values history sound k (wrong.Overflow p) asked is = absurd asked
true_along o values history sound k wrong.Post asked is =
    let holds = sound.post_at_end is.last (values, take k history, is.begins, is.leads) is.there.0 in absurd (true_is_not_false _ holds is.there.1)
true_along o values history sound k wrong.Stuck asked is = absurd asked

none_asked : (source : List ℕ) (g : Given) (ended : Result Outcome RunError) → IsSound g.outline
    → IfOk ended (λ o. IsNote source g.outline g.values o.history.items None)
none_asked source g (Ok o) sound = true_along g.outline g.values o.history.items sound
none_asked source g (Err e) sound = tt

none_answered : (ended : Result Outcome RunError) (a : Answer) → IfErr ended (λ _. note_of (quiet a) ≡ None)
none_answered (Ok o) a = tt
none_answered (Err e) a = refl

pub proved_answered : (source : List ℕ) (g : Given) (unblocked : Bool) (ended : Result Outcome RunError) (a : Answer) → IsSound g.outline → Runs ended g
    → IfOk ended (IsProvedOutcome g unblocked)
    → IfOk ended (λ o. Says (outcome_text g.outline o) (finish_status o.finish) a) → IfErr ended (λ e. IsFaultAnswer e a) → IsAnswerProved source g unblocked (quiet a)
proved_answered source g unblocked ended a sound runs proved answered refused =
    ended_as (IsProvedOutcome g unblocked) source g ended (quiet a) runs proved (none_asked source g ended sound) (none_answered ended a) answered refused

-- all steps were made
pub all_made : (source : List ℕ) (g : Given) (o : Program) (values : List ℤ) (history h : List ℕ) (outcome : Outcome) (ran : Ran) → g.outline ≡ o → g.values ≡ values
    → h ≡ outcome.history.items → IsOutcome g outcome → outcome.history.items ≡ history → IsNote source o values h (note_of ran)
    → Says (outcome_text o outcome) (finish_status outcome.finish) ran.answer → EndsAsked (λ r. r.history.items ≡ history) source g ran
all_made source g o values history h outcome ran outline_is values_are history_is is same note answered = record {
  outcome = outcome;
  is = is;
  more = (
    same,
    subst (λ (p : Program). IsNote source p g.values outcome.history.items (note_of ran)) (sym outline_is)
        (subst (λ (v : List ℤ). IsNote source o v outcome.history.items (note_of ran)) (sym values_are) (subst (λ (l : List ℕ). IsNote source o values l (note_of ran)) history_is note)),
  );
  answered = subst (λ (p : Program). Says (outcome_text p outcome) (finish_status outcome.finish) ran.answer) (sym outline_is) answered;
}
