-- From the errors of the parts to the refusal of the whole.
use Rattle.std.proofs.Common.{◌≡◌, ℕ, ◌≤◌, List, length, Ok, Err, Some, sym, subst}
use Rattle.og_typed.specs.Syntax.{Program}
use Rattle.og_typed.specs.Source.{IsSource}
use Rattle.og_typed.specs.Refused.{IsNotRead}
use Rattle.og_typed.specs.declared.source_fault.SourceError.{SourceError}
use Rattle.og_typed.specs.declared.source_fault.SourceError.TheVariants as errors
use Rattle.og_cond.specs.Conditions.{conditions}
use Rattle.og_cond.specs.Limits.{condition_limit}
use Rattle.og_cond.specs.declared.fault.ConditionsError.{ConditionsError}
use Rattle.og_cond.specs.declared.fault.ConditionsError.TheVariants as listed
use Rattle.og_cond.specs.Answer.{IsListed}
use Rattle.og_cert_text.specs.Files.{Entries}
use Rattle.og_cert_text.specs.Rising.{IsLeastAbove}
use Rattle.og_cert_text.specs.declared.fault.CertTextError.{CertTextError}
use Rattle.og_cert_text.specs.declared.fault.CertTextError.TheVariants as certs
use Rattle.og_cert_read.specs.Read.{Gives}
use Rattle.og_cert_read.specs.Answered.{IsRead}
use Rattle.og_report_text.specs.declared.fault.InputFault.TheVariants as faults
use Rattle.og_judge.specs.declared.refusal.Refusal.{Refusal}
use Rattle.og_judge.specs.declared.refusal.Refusal.TheVariants as refusal
use Rattle.og_judge.specs.Errors.{of_source, of_conditions, of_certs}
use Rattle.og_judge.specs.NotJudged.{AreNotFound, IsNotJudged}

pub conditions_refused : (certs : List ℕ) (o : Program) (e : ConditionsError) (why : Refusal)
    → IsListed condition_limit (conditions o) (Err e) → why ≡ of_conditions e → AreNotFound certs o why
conditions_refused certs o listed.Memory why h is = subst (AreNotFound certs o) (sym is) tt
conditions_refused certs o (listed.Fault fault) why h is = subst (AreNotFound certs o) (sym is) h

pub certs_refused : (text : List ℕ) (o : Program) (e : CertTextError) (why : Refusal)
    → length (conditions o) ≤ condition_limit → IsRead text (Err e) → why ≡ of_certs e → AreNotFound text o why
certs_refused text o certs.Memory why few h is = subst (AreNotFound text o) (sym is) tt
certs_refused text o (certs.Fault fault) why few h is = subst (AreNotFound text o) (sym is) (few, h)

pub stray_refused : (text : List ℕ) (o : Program) (file : Entries) (count n : ℕ) → length (conditions o) ≤ condition_limit → Gives text (Ok file)
    → count ≡ length (conditions o) → IsLeastAbove count file (Some n) → AreNotFound text o (refusal.Input (faults.Stray n))
stray_refused text o file count n few read same h =
    let least = subst (λ (m : ℕ). IsLeastAbove m file (Some n)) same h in
    record { few = few; file = file; read = read; above = least.0; there = least.1; least = least.2 }

pub source_refused : (source text : List ℕ) (e : SourceError) (why : Refusal) → IsNotRead source e → why ≡ of_source e → IsNotJudged source text why
source_refused source text errors.Memory why h is = subst (IsNotJudged source text) (sym is) tt
source_refused source text (errors.Fault fault) why h is = subst (IsNotJudged source text) (sym is) h

-- of an outline of the source
pub whole_refused : (source text : List ℕ) (o : Program) (why : Refusal) → IsSource source o → AreNotFound text o why → IsNotJudged source text why
whole_refused source text o (refusal.Input (faults.Source f)) s h = absurd h
whole_refused source text o (refusal.Input (faults.Conditions f)) s h = (o, s, h)
whole_refused source text o (refusal.Input (faults.Certs f)) s h = (o, s, h)
whole_refused source text o (refusal.Input (faults.Stray n)) s h = (o, s, h)
whole_refused source text o refusal.Spawn s h = tt
whole_refused source text o refusal.Memory s h = tt
