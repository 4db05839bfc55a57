-- What certificates of a list of facts say of its condition.
use Rattle.std.proofs.Common.{◌≡◌, ℕ, ℤ, List, Bool, true, false, ◌&&◌, not, Ok, refl, sym, ◌∙◌, subst}
use Rattle.std.specs.Prelude.{IsOkAnd, IfOk, Result, Err}
use Rattle.og_cond.specs.Condition.{assignments, Condition}
use Rattle.og_cond.specs.Valid.{IsValid, hypotheses_true, goal_true}
use Rattle.og_facts.specs.Facts.{Fact, facts_of}
use Rattle.og_facts.specs.Listed.{Listed}
use Rattle.og_facts.specs.declared.fault.FactsFault.{FactsFault}
use Rattle.og_facts.proofs.Refuted.{facts_said}
use Rattle.og_cert_text.specs.Tree.{Cert}
use Rattle.og_cert_text.specs.Plain.{plain_cert}
use Rattle.og_cert.specs.Closes.{closes}
use Rattle.og_cert.proofs.Refuting.{closed_is_valid}
use Rattle.og_find.specs.declared.verdict.Verdict.{Verdict}
use Rattle.og_find.specs.declared.verdict.Verdict.TheVariants as verdicts
use Rattle.og_find.specs.declared.verdict.Followed.{Followed}
use Rattle.og_find.specs.declared.verdict.Followed.TheVariants as followed
use Rattle.og_find.specs.Found.{Certifies, IsFalseAt, IsFollowed, IsFollowedOn, IsVerdict, IsVerdictOn, IsModel, Closes}

-- a certificate that closes the facts of a condition certifies it
pub certified : (c : Condition) (list : Listed) (proof : Cert) → facts_of c ≡ Ok list.facts → list.variables ≡ c.variables → Closes list proof → Certifies c proof
certified c list proof e v h =
    let P : ℕ → Type 0 = λ n. closes n list.facts proof ≡ true in
    let closed : closes c.variables list.facts proof ≡ true = subst P v h.1 in
    (h.0, rw e closed)

-- a condition that is certified is true
pub certified_valid : (c : Condition) (proof : Cert) → Certifies c proof → IsValid c
certified_valid c proof h = go (facts_of c) refl h.1
  where
    go : (r : Result (List Fact) FactsFault) → facts_of c ≡ r → IsOkAnd r (λ fs. closes c.variables fs proof ≡ true) → IsValid c
    go (Ok fs) e k = closed_is_valid c c.variables fs proof e k
    go (Err x) e k = absurd k

-- facts that are true at a state say that the condition is false there
pub falsified : (c : Condition) (list : Listed) (s : List ℤ) → facts_of c ≡ Ok list.facts → list.variables ≡ c.variables → IsModel list s → IsFalseAt c s
falsified c list s e v model =
    let both : (hypotheses_true s c.hypotheses && not (goal_true s (assignments c.action) c.goal)) ≡ true = sym (facts_said c list.facts s e) ∙ model.2 in
    let parts = split (hypotheses_true s c.hypotheses) (goal_true s (assignments c.action) c.goal) both in
    (model.0, model.1 ∙ v, parts.0, parts.1)
  where
    split : (a b : Bool) → (a && not b) ≡ true → (a ≡ true) × (b ≡ false)
    split true true e = absurd (cc)
    split true false e = (refl, refl)
    split false b e = absurd (cc)

pub verdict_on : (c : Condition) (list : Listed) (v : Verdict) → facts_of c ≡ Ok list.facts → list.variables ≡ c.variables → IsVerdictOn list v → IsVerdict c v
verdict_on c list (verdicts.True cert) e v h = certified c list (plain_cert cert) e v h
verdict_on c list (verdicts.False s) e v h = falsified c list s e v h
verdict_on c list verdicts.Open e v h = tt

pub followed_on : (c : Condition) (list : Listed) (proof : Cert) (f : Followed) → facts_of c ≡ Ok list.facts → list.variables ≡ c.variables → IsFollowedOn list proof f → IsFollowed c proof f
followed_on c list proof followed.Shares e v h = certified c list proof e v h
followed_on c list proof (followed.Own own) e v h = verdict_on c list own e v h

-- ---- results

pub if_ok : {T E : Type 0} (r : Result T E) (P Q : T → Type 0) → ((x : T) → P x → Q x) → IfOk r P → IfOk r Q
if_ok (Ok x) P Q f p = f x p
if_ok (Err e) P Q f p = tt
