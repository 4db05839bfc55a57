-- From the errors of the parts to the refusal of the whole.
use Rattle.std.proofs.Common.{◌≡◌, ℕ, ◌<◌, List, Err, refl, sym, subst}
use Rattle.og_typed.specs.Syntax.{Program}
use Rattle.og_cond.specs.Answer.{IsListed}
use Rattle.og_cond.specs.Conditions.{conditions}
use Rattle.og_cond.specs.Limits.{condition_limit}
use Rattle.og_cond.specs.declared.fault.ConditionsError.{ConditionsError}
use Rattle.og_cond.specs.declared.fault.ConditionsError.TheVariants as listed
use Rattle.og_cert_text.specs.declared.fault.CertTextError.{CertTextError}
use Rattle.og_cert_text.specs.declared.fault.CertTextError.TheVariants as certs
use Rattle.og_pool.specs.declared.fault.PoolFault.{PoolFault}
use Rattle.og_pool.specs.declared.fault.PoolFault.TheVariants as pool
use Rattle.og_report_text.specs.InputErrors as input
use Rattle.og_report_text.specs.declared.fault.InputFault.{InputFault}
use Rattle.og_report_text.specs.declared.input_error.InputError.{InputError}
use Rattle.og_judge.specs.Errors.{of_conditions, of_pool}
use Rattle.og_judge.specs.Migrated.{IsUnreadable}
use Rattle.og_judge.specs.NotJudged.{OnInput}
use Rattle.og_judge.specs.declared.refusal.Refusal.{Refusal}
use Rattle.og_judge.specs.declared.refusal.Refusal.TheVariants as refusal
use Rattle.og_command_check.specs.Making.{IsFaultOfCerts}

-- an outline with too many conditions
pub count_refused : (o : Program) (e : ConditionsError) (why : Refusal) → IsListed condition_limit (conditions o) (Err e)
    → why ≡ of_conditions e → OnInput (input.IsFaultOfCount o) why
count_refused o listed.Memory why h is = subst (OnInput (input.IsFaultOfCount o)) (sym is) tt
count_refused o (listed.Fault fault) why h is = subst (OnInput (input.IsFaultOfCount o)) (sym is) h

-- workers that failed say nothing of the input
pub pool_refused : (P : InputFault → Type 0) (e : PoolFault) (why : Refusal) → why ≡ of_pool e → OnInput P why
pool_refused P pool.Spawn why is = subst (OnInput P) (sym is) tt
pool_refused P pool.Memory why is = subst (OnInput P) (sym is) tt

-- a thread that could not be started is the cause of that refusal alone
pub pool_spawn : (n : ℕ) (e : PoolFault) (why : Refusal) → why ≡ of_pool e → (e ≡ pool.Spawn → 1 < n) → why ≡ refusal.Spawn → 1 < n
pool_spawn n pool.Spawn why is several spawn = several refl
pool_spawn n pool.Memory why is several spawn = absurd (cc)

-- certificates that are not read
pub certs_refused : (text : List ℕ) (e : CertTextError) (why : InputError) → IsUnreadable text e → why ≡ input.of_certs e
    → input.OnFault (IsFaultOfCerts text) why
certs_refused text certs.Memory why h is = subst (input.OnFault (IsFaultOfCerts text)) (sym is) tt
certs_refused text (certs.Fault fault) why h is = subst (input.OnFault (IsFaultOfCerts text)) (sym is) h
