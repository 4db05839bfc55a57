-- Files of the certificates of verdicts.
use Rattle.std.proofs.Common.{◌≡◌, ◌≤◌, ⊎_elim, get_or, inl, inr, ℕ, ◌+◌, ◌-◌, ◌<◌, List, [], ◌∷◌, ◌++◌, zero, suc, length, Bool, true, false, Option, Some, None, refl, sym, ap, ◌∙◌, subst, arith}
use Rattle.std.specs.Prelude.{nat_lt, ◌==◌, if◌then◌else◌, slice_get, IsSomeAnd, Result, Ok, Err, OnOk}
use Rattle.std.proofs.lemmas.Option.{slice_get_cases, slice_get_past}
use Rattle.std.specs.Global.{Box}
use Rattle.std.specs.List.{AllByRecursion}
use Rattle.std.proofs.lemmas.Bool.Decides.{nat_tests}
use Rattle.og_cert_text.specs.Tree.{Cert}
use Rattle.og_cert_text.specs.Plain.{plain_cert}
use Rattle.og_cert_text.specs.Files.{Entries, certificate_of, with_entry}
use Rattle.og_cert_text.specs.declared.cert.Cert.{Cert as FileCert}
use Rattle.og_cond.specs.Condition.{Condition}
use Rattle.og_find.specs.Found.{Certifies, IsVerdict, IsOfOne, AreOf}
use Rattle.og_find.specs.declared.verdict.Verdict.{Verdict}
use Rattle.og_find.specs.declared.verdict.Verdict.TheVariants as verdicts
use Rattle.og_find_all.specs.Findings.{verdict_at, own_or, verdict_in, verdict_of, AreVerdicts}
use Rattle.og_find_all.specs.declared.findings.Findings.{Findings}
use Rattle.og_find_all.specs.Filing.{IsCertificateOf, AreFiled, IsAtPlace, IsPut, IsShared}

-- ---- results

pub on_ok : {T E : Type 0} (r : Result T E) (P Q : Type 0) → (P → Q) → OnOk r P → OnOk r Q
on_ok (Ok x) P Q f p = f p
on_ok (Err e) P Q f p = tt

-- ---- entries

all_with : (P : ℕ × Cert → Type 0) (n : ℕ) (c : Cert) (es : Entries) → P (n, c) → AllByRecursion P es → AllByRecursion P (with_entry n c es)
all_with P n c [] p h = (p, tt)
all_with P n c (e ∷ es) p h =
    elim (nat_lt n e.0) as (λ b. AllByRecursion P (if b then (n, c) ∷ e ∷ es else e ∷ with_entry n c es)) [ true ↦ (p, h) | false ↦ (h.0, all_with P n c es p h.1) ]

filed_at : (P : ℕ × Cert → Type 0) (k : ℕ) (c : Cert) (es : Entries) → certificate_of k es ≡ Some c → AllByRecursion P es → P (k, c)
filed_at P k c [] at h = absurd (cc)
filed_at P k c (e ∷ es) at h = from (k == e.0) refl (λ later. filed_at P k c es later h.1)
  where
    from : (b : Bool) → (k == e.0) ≡ b → (certificate_of k es ≡ Some c → P (k, c)) → P (k, c)
    from true t rest =
        let found : Some e.1 ≡ Some c = sym (ap (λ (b : Bool). if b then Some e.1 else certificate_of k es) t) ∙ at in
        let same : e.1 ≡ c = cc in
        let number : e.0 ≡ k = grind (arith, nat_tests) in
        subst (λ (x : Cert). P (k, x)) same (subst (λ (n : ℕ). P (n, e.1)) number h.0)
    from false f rest = rest (sym (ap (λ (b : Bool). if b then Some e.1 else certificate_of k es) f) ∙ at)

-- ---- verdicts at places

at_place : (own : List (Option (Box Verdict))) (places : List ℕ) (vs : List Verdict) (i place : ℕ) → IsAtPlace own places i place → verdict_in own places vs i ≡ slice_get vs place
at_place own places vs i place at = ap (λ o. own_or o (verdict_at vs (slice_get places i))) at.0 ∙ ap (verdict_at vs) at.1

put_filed : (own : List (Option (Box Verdict))) (places : List ℕ) (vs : List Verdict) (n : ℕ) (c : Cert) (before after : Entries) → 0 < n
    → IsCertificateOf (verdict_in own places vs (n - 1)) c → IsPut n c before after → AreFiled own places vs before → AreFiled own places vs after
put_filed own places vs n c before after some is (inl same) h = subst (AreFiled own places vs) (sym same) h
put_filed own places vs n c before after some is (inr added) h =
    subst (AreFiled own places vs) (sym added) (all_with (λ e. (0 < e.0) × IsCertificateOf (verdict_in own places vs (e.0 - 1)) e.1) n c before (some, is) h)

-- the certificate of a verdict, put under the number of a condition that has it
pub verdict_filed : (own : List (Option (Box Verdict))) (places : List ℕ) (vs : List Verdict) (n place : ℕ) (v : Verdict) (cert : FileCert) (before after : Entries)
    → v ≡ verdicts.True cert → slice_get vs place ≡ Some v → 0 < n → IsAtPlace own places (n - 1) place
    → IsPut n (plain_cert cert) before after → AreFiled own places vs before → AreFiled own places vs after
verdict_filed own places vs n place v cert before after is there some at put h =
    let its : verdict_in own places vs (n - 1) ≡ Some (verdicts.True cert) = at_place own places vs (n - 1) place at ∙ there ∙ ap Some is in
    put_filed own places vs n (plain_cert cert) before after some (subst (λ o. IsCertificateOf o (plain_cert cert)) (sym its) refl) put h

-- the certificate of a condition, shared with one that has the same verdict
pub shared_filed : (own : List (Option (Box Verdict))) (places : List ℕ) (vs : List Verdict) (n k place : ℕ) (before after : Entries)
    → 0 < n → IsAtPlace own places (n - 1) place → IsAtPlace own places (k - 1) place
    → IsShared n k before after → AreFiled own places vs before → AreFiled own places vs after
shared_filed own places vs n k place before after some at there (inl same) h = subst (AreFiled own places vs) (sym same) h
shared_filed own places vs n k place before after some at there (inr added) h =
    let entry = filed_at (λ e. (0 < e.0) × IsCertificateOf (verdict_in own places vs (e.0 - 1)) e.1) k added.0 before added.1 h in
    let same : verdict_in own places vs (k - 1) ≡ verdict_in own places vs (n - 1) = at_place own places vs (k - 1) place there ∙ sym (at_place own places vs (n - 1) place at) in
    put_filed own places vs n added.0 before after some (subst (λ o. IsCertificateOf o added.0) same entry.1) (inr added.2) h

-- the certificate that a condition has for itself
pub own_filed : (own : List (Option (Box Verdict))) (places : List ℕ) (vs : List Verdict) (n i : ℕ) (last : Option (Box Verdict)) (verdict : Box Verdict) (cert : FileCert) (before after : Entries)
    → last ≡ Some verdict → verdict.value ≡ verdicts.True cert → slice_get own i ≡ Some last → n ≡ i + 1
    → IsPut n (plain_cert cert) before after → AreFiled own places vs before → AreFiled own places vs after
own_filed own places vs n i last verdict cert before after some is there number put h =
    let shared = verdict_at vs (slice_get places i) in
    let its : verdict_in own places vs i ≡ Some (verdicts.True cert) = ap (λ o. own_or o shared) (there ∙ ap Some some) ∙ ap Some is in
    let back : i ≡ n - 1 = omega (arith, number) in
    let at : verdict_in own places vs (n - 1) ≡ Some (verdicts.True cert) = subst (λ (k : ℕ). verdict_in own places vs k ≡ Some (verdicts.True cert)) back its in
    put_filed own places vs n (plain_cert cert) before after (omega (arith, number)) (subst (λ o. IsCertificateOf o (plain_cert cert)) (sym at) refl) put h

-- ---- conditions

-- the certificate of a verdict that is true of a condition certifies it
certifies : (c : Condition) (o : Option Verdict) (proof : Cert) → IsSomeAnd o (IsVerdict c) → IsCertificateOf o proof → Certifies c proof
certifies c None proof v is = absurd is
certifies c (Some (verdicts.True cert)) proof v is = subst (Certifies c) is v
certifies c (Some (verdicts.False s)) proof v is = absurd is
certifies c (Some verdicts.Open) proof v is = absurd is

one_of : (cs : List Condition) (f : Findings) (e : ℕ × Cert) → AreVerdicts cs f → 0 < e.0 → IsCertificateOf (verdict_of f (e.0 - 1)) e.1 → IsOfOne cs e
one_of cs f e h some is = ⊎_elim
    (λ (at : (c : Condition) × (e.0 - 1 < length cs) × (slice_get cs (e.0 - 1) ≡ Some c) × (get_or cs (e.0 - 1) c ≡ c)).
    (some, subst (λ o. IsSomeAnd o (λ c. Certifies c e.1)) (sym at.2) (certifies at.0 (verdict_of f (e.0 - 1)) e.1 (h.1 (e.0 - 1) at.0 at.2) is)))
    (λ (past : (length cs ≤ e.0 - 1) × (slice_get cs (e.0 - 1) ≡ None)).
    let len = h.0 in
    let far = past.0 in
    let none = slice_get_past f.own.items (e.0 - 1) (omega (arith, len, far)) in
    let gone : verdict_of f (e.0 - 1) ≡ None = ap (λ o. own_or o (verdict_at f.verdicts.items (slice_get f.places.items (e.0 - 1)))) none in
    absurd (subst (λ o. IsCertificateOf o e.1) gone is))
    (slice_get_cases cs (e.0 - 1)).1

pub all_of : (cs : List Condition) (f : Findings) (es : Entries) → AreVerdicts cs f → AreFiled f.own.items f.places.items f.verdicts.items es → AreOf cs es
all_of cs f [] h filed = tt
all_of cs f (e ∷ es) h filed = (one_of cs f e h filed.0.0 filed.0.1, all_of cs f es h filed.1)

-- ---- lists from which the last was taken

pub front : {X : Type 0} (xs all : List X) (y : X) (i : ℕ) (x : X) → all ≡ xs ++ y ∷ [] → slice_get xs i ≡ Some x → slice_get all i ≡ Some x
front {X} xs all y i x is at = subst (λ (zs : List X). slice_get zs i ≡ Some x) (sym is) (go xs i at)
  where
    go : (xs : List X) (i : ℕ) → slice_get xs i ≡ Some x → slice_get (xs ++ y ∷ []) i ≡ Some x
    go [] i at = absurd (cc)
    go (z ∷ xs) zero at = at
    go (z ∷ xs) (suc i) at = go xs i at

pub last_of : {X : Type 0} (xs all : List X) (y : X) → all ≡ xs ++ y ∷ [] → slice_get all (length xs) ≡ Some y
last_of {X} xs all y is = subst (λ (zs : List X). slice_get zs (length xs) ≡ Some y) (sym is) (go xs)
  where
    go : (xs : List X) → slice_get (xs ++ y ∷ []) (length xs) ≡ Some y
    go [] = refl
    go (z ∷ xs) = go xs
