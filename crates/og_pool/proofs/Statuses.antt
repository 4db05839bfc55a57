-- The status of a condition, by the finding on it.
use Rattle.std.proofs.lemmas.Option.{slice_get_cases}
use Rattle.std.proofs.Common.{◌≡◌, ℕ, zero, suc, ◌+◌, ◌-◌, ◌<◌, ◌≤◌, ⊎_elim, arith, length, get_or, List, [], ◌∷◌, map, slice_get, Option, Some, None, Ok, Err, refl, sym, ap, ◌∙◌}
use Rattle.og_facts.specs.Answer.{IsFacts}
use Rattle.og_facts.specs.Listed.{Listed}
use Rattle.og_cond.specs.Condition as plain
use Rattle.og_cond.specs.declared.condition.Condition.{Condition}
use Rattle.og_cond.specs.Seen.{seen}
use Rattle.og_facts.specs.Facts.{Fact, facts_of}
use Rattle.og_facts.specs.declared.fault.FactsFault.{FactsFault}
use Rattle.og_cert_text.specs.Tree.{Cert}
use Rattle.og_cert_text.specs.Files.{certificate_of}
use Rattle.og_cert_text.specs.Shown.{shown}
use Rattle.og_cert_text.specs.declared.file.CertFile.{CertFile}
use Rattle.og_cert.specs.Faults.{first_fault}
use Rattle.og_pool.specs.Answers.{AreAnswers}
use Rattle.og_pool.specs.declared.status.Status.{Status}
use Rattle.og_pool.specs.declared.status.Status.TheVariants as status
use Rattle.og_pool.specs.Status.{by_fault, by_facts}
use Rattle.og_pool.specs.Numbered.{by_condition, status_of}

seen_at : (cs : List Condition) (i : ℕ) (c : Condition) → slice_get cs i ≡ Some c → slice_get (map seen cs) i ≡ Some (seen c)
seen_at [] i c at = absurd (cc)
seen_at (d ∷ cs) zero c at = ap (λ (o : Option Condition). seen_of o) at
  where
    seen_of : Option Condition → Option plain.Condition
    seen_of None = None
    seen_of (Some d) = Some (seen d)
seen_at (d ∷ cs) (suc i) c at = seen_at cs i c at

by_none : (c : Option plain.Condition) → status.Missing ≡ by_condition c None
by_none None = refl
by_none (Some c) = refl

pub is_missing : (cs : List Condition) (file : CertFile) (n : ℕ) → certificate_of n (shown file) ≡ None → status.Missing ≡ status_of cs file n
unfolding status_of
is_missing cs file n none = by_none (slice_get (map seen cs) (n - 1)) ∙ sym (ap (by_condition (slice_get (map seen cs) (n - 1))) none)

by_these : (cs : List Condition) (file : CertFile) (n : ℕ) (c : Condition) (proof : Cert) → slice_get cs (n - 1) ≡ Some c
    → certificate_of n (shown file) ≡ Some proof → status_of cs file n ≡ by_facts (seen c).variables (facts_of (seen c)) proof
unfolding status_of
by_these cs file n c proof at there =
    ap (λ o. by_condition o (certificate_of n (shown file))) (seen_at cs (n - 1) c at) ∙ ap (by_condition (Some (seen c))) there

pub is_too_large : (cs : List Condition) (file : CertFile) (n : ℕ) (c : Condition) (proof : Cert) (e : FactsFault) → slice_get cs (n - 1) ≡ Some c
    → certificate_of n (shown file) ≡ Some proof → facts_of (seen c) ≡ Err e → status.TooLarge ≡ status_of cs file n
is_too_large cs file n c proof e at there refused =
    sym (by_these cs file n c proof at there ∙ ap (λ r. by_facts (seen c).variables r proof) refused)

pub is_replayed : (cs : List Condition) (file : CertFile) (n : ℕ) (c : Condition) (proof : Cert) (fs : List Fact) → slice_get cs (n - 1) ≡ Some c
    → certificate_of n (shown file) ≡ Some proof → facts_of (seen c) ≡ Ok fs
    → by_fault (first_fault (seen c).variables fs proof) ≡ status_of cs file n
is_replayed cs file n c proof fs at there made =
    sym (by_these cs file n c proof at there ∙ ap (λ r. by_facts (seen c).variables r proof) made)

-- conditions that have one certificate and equal facts have one status
pub is_like : (cs : List Condition) (file : CertFile) (n m : ℕ) (c d : Condition) (list others : Listed) → slice_get cs (n - 1) ≡ Some c → slice_get cs (m - 1) ≡ Some d
    → certificate_of n (shown file) ≡ certificate_of m (shown file) → IsFacts (seen c) (Ok list) → IsFacts (seen d) (Ok others) → list ≡ others → status_of cs file m ≡ status_of cs file n
unfolding status_of
is_like cs file n m c d list others at there one made found same =
    ap (λ o. by_condition o (certificate_of m (shown file))) (seen_at cs (m - 1) d there)
    ∙ by_one (certificate_of m (shown file))
    ∙ ap (by_condition (Some (seen c))) (sym one)
    ∙ sym (ap (λ o. by_condition o (certificate_of n (shown file))) (seen_at cs (n - 1) c at))
  where
    by_one : (proof : Option Cert) → by_condition (Some (seen d)) proof ≡ by_condition (Some (seen c)) proof
    by_one None = refl
    by_one (Some proof) =
        ap (λ v. by_facts v (facts_of (seen d)) proof) (sym found.1)
        ∙ ap (λ r. by_facts others.variables r proof) found.0
        ∙ ap (λ (l : Listed). by_facts l.variables (Ok l.facts) proof) (sym same)
        ∙ ap (λ r. by_facts list.variables r proof) (sym made.0)
        ∙ ap (λ v. by_facts v (facts_of (seen c)) proof) made.1

pub some_condition : (cs : List Condition) (n : ℕ) → 0 < n → n ≤ length cs → (c : Condition) × (slice_get cs (n - 1) ≡ Some c)
some_condition cs n some few = ⊎_elim
    (λ (h : (x : Condition) × (n - 1 < length cs) × (slice_get cs (n - 1) ≡ Some x) × (get_or cs (n - 1) x ≡ x)). (h.0, h.2))
    (λ (h : (length cs ≤ n - 1) × (slice_get cs (n - 1) ≡ None)). let past = h.0 in absurd (omega arith))
    (slice_get_cases cs (n - 1)).1

-- the status by a replay over the condition's facts
pub is_fresh : (cs : List Condition) (file : CertFile) (n : ℕ) (list : Listed) (proof : Cert) → 0 < n → n ≤ length cs → ((c : Condition) → slice_get cs (n - 1) ≡ Some c → IsFacts (seen c) (Ok list))
    → certificate_of n (shown file) ≡ Some proof → by_fault (first_fault list.variables list.facts proof) ≡ status_of cs file n
is_fresh cs file n list proof some few facts there =
    let its = some_condition cs n some few in
    let made = facts its.0 its.1 in
    ap (λ v. by_fault (first_fault v list.facts proof)) made.1 ∙ is_replayed cs file n its.0 proof list.facts its.1 there made.0

-- an answer for each condition, which may be its status alone
pub statuses_of : (cs : List Condition) (file : CertFile) (v : List Status) → AreAnswers (length cs) (λ n s. s ≡ status_of cs file n) v
    → (i : ℕ) → i < length cs → slice_get v i ≡ Some (status_of cs file (i + 1))
statuses_of cs file v h i within = ⊎_elim
    (λ (some : (x : Status) × (i < length v) × (slice_get v i ≡ Some x) × (get_or v i x ≡ x)). some.2 ∙ ap Some (h.1 i some.0 some.2))
    (λ (none : (length v ≤ i) × (slice_get v i ≡ None)). let len = h.0 in let past = none.0 in absurd (omega (arith, len, past, within)))
    (slice_get_cases v i).1
