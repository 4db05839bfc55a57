-- What is known of the error of a text that means no outline.
use Rattle.std.proofs.Common.{◌≡◌, ◌≤◌, ◌^◌, sym, subst, ℕ, List, [], Bool, true, false, length, Result, IfOk}
use Rattle.std.specs.Prelude.{IsSome}
use Rattle.std.proofs.lemmas.Result.{IfOk-weaker}
use Rattle.og_typed.specs.Refused.{IsSourceFault}
use Rattle.og_typed.specs.declared.source_fault.SourceFault.{SourceFault}
use Rattle.og_report_text.specs.declared.fault.InputFault.TheVariants as faults
use Rattle.og_judge.specs.declared.refusal.Refusal.TheVariants as refusals
use Rattle.og_template_outline.specs.Faults.{place_of_fault}
use Rattle.og_template_outline.specs.Meaning.{IsNotMeantBy}
use Rattle.og_template_outline.specs.declared.fault.ExpandFault.{ExpandFault}
use Rattle.og_template_outline.specs.declared.fault.MeaningError.{MeaningError}
use Rattle.og_template_outline.specs.declared.fault.MeaningError.TheVariants as errors
use Rattle.og_template_outline.specs.declared.meaning.Takes.{Takes}
use Rattle.og_program.specs.World.{Text}
use Rattle.og_program.specs.Beside.{IsRefused}
use Rattle.og_program.specs.Given.{FollowsError}
use Rattle.og_program.specs.declared.fault.Fault.{Fault}
use Rattle.og_program.specs.declared.outcome.Outcome.{Outcome}

-- that of a source is its first fault
first_fault : (b : Bool) (takes : Takes) (text : List ℕ) (words : List (List ℕ)) (fault : SourceFault) → IsNotMeantBy b takes text words (errors.Source fault) → IsSourceFault text fault
first_fault true takes text words fault why = absurd why
first_fault false takes text words fault why = why

pub of_source : (b : Bool) (takes : Takes) (text : List ℕ) (words : List (List ℕ)) (error : MeaningError) (fault : SourceFault) → error ≡ errors.Source fault → IsNotMeantBy b takes text words error → IsSourceFault text fault
of_source b takes text words error fault is why = first_fault b takes text words fault (subst (IsNotMeantBy b takes text words) is why)

-- a template in which it has a place is short
has_place : (b : Bool) (takes : Takes) (text : List ℕ) (words : List (List ℕ)) (fault : ExpandFault) → IsNotMeantBy b takes text words (errors.Template fault) → IsSome (place_of_fault fault) → length text ≤ 2 ^ 20
has_place true takes text words fault why = why
has_place false takes text words fault why = absurd why

pub of_template : (b : Bool) (takes : Takes) (text : List ℕ) (words : List (List ℕ)) (error : MeaningError) (fault : ExpandFault) → error ≡ errors.Template fault → IsNotMeantBy b takes text words error → IsSome (place_of_fault fault) → length text ≤ 2 ^ 20
of_template b takes text words error fault is why = has_place b takes text words fault (subst (IsNotMeantBy b takes text words) is why)

-- the refusal of a source is the outcome for its error
pub follows_source : (text : Text) (fault : SourceFault) (error : MeaningError) (r : Result Outcome Fault) → error ≡ errors.Source fault → IfOk r (IsRefused text [] (refusals.Input (faults.Source fault))) → IfOk r (FollowsError text error)
follows_source text fault error r is h =
    subst (λ (e : MeaningError). IfOk r (FollowsError text e)) (sym is)
    (IfOk-weaker r (IsRefused text [] (refusals.Input (faults.Source fault))) (FollowsError text (errors.Source fault)) (λ outcome h. h) h)
