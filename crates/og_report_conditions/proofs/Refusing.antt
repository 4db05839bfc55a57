-- Why conditions are not listed.
use Rattle.std.proofs.Common.{◌≡◌, ◌<◌, length, subst, sym}
use Rattle.og_typed.specs.Syntax.{Program}
use Rattle.og_cond.specs.Conditions.{conditions}
use Rattle.og_cond.specs.Limits.{condition_limit}
use Rattle.og_cond.specs.declared.fault.ConditionsError.{ConditionsError}
use Rattle.og_cond.specs.declared.fault.ConditionsError.TheVariants as errors
use Rattle.og_report_text.specs.InputErrors.{of_conditions, OnFault, IsFaultOfCount}
use Rattle.og_report_text.specs.declared.input_error.InputError.{InputError}
use Rattle.og_report_conditions.specs.Chosen.{IsWhyNot}

-- the outline that was asked is that of the source
pub too_many : (o p : Program) (error : ConditionsError) (e : InputError) → p ≡ o → IsWhyNot p error → e ≡ of_conditions error → OnFault (IsFaultOfCount o) e
too_many o p (errors.Fault fault) e same why is =
    subst (OnFault (IsFaultOfCount o)) (sym is) (subst (λ (q : Program). condition_limit < length (conditions q)) same why)
too_many o p errors.Memory e same why is = subst (OnFault (IsFaultOfCount o)) (sym is) tt
