-- From the errors of the parts to the refusal of an outline.
use Rattle.std.proofs.Common.{◌≡◌, Err, sym, subst}
use Rattle.og_typed.specs.Syntax.{Program}
use Rattle.og_cond.specs.Answer.{IsListed}
use Rattle.og_cond.specs.Conditions.{conditions}
use Rattle.og_cond.specs.Limits.{condition_limit}
use Rattle.og_cond.specs.declared.fault.ConditionsError.{ConditionsError}
use Rattle.og_cond.specs.declared.fault.ConditionsError.TheVariants as listed
use Rattle.og_pool.specs.declared.fault.PoolFault.{PoolFault}
use Rattle.og_pool.specs.declared.fault.PoolFault.TheVariants as pool
use Rattle.og_report_text.specs.InputErrors.{IsFaultOfCount}
use Rattle.og_report_text.specs.declared.fault.InputFault.{InputFault}
use Rattle.og_judge.specs.Errors.{of_conditions, of_pool}
use Rattle.og_judge.specs.NotJudged.{OnInput}
use Rattle.og_judge.specs.declared.refusal.Refusal.{Refusal}

-- refused threads or memory say nothing
pub pool_refused : (P : InputFault → Type 0) (e : PoolFault) (why : Refusal) → why ≡ of_pool e → OnInput P why
pool_refused P pool.Spawn why is = subst (OnInput P) (sym is) tt
pool_refused P pool.Memory why is = subst (OnInput P) (sym is) tt

pub count_refused : (o : Program) (e : ConditionsError) (why : Refusal) → IsListed condition_limit (conditions o) (Err e) → why ≡ of_conditions e → OnInput (IsFaultOfCount o) why
count_refused o listed.Memory why h is = subst (OnInput (IsFaultOfCount o)) (sym is) tt
count_refused o (listed.Fault fault) why h is = subst (OnInput (IsFaultOfCount o)) (sym is) h
