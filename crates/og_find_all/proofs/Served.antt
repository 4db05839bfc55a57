-- What the workers answer, together.
use Rattle.std.proofs.Common.{◌≡◌, ◌⊎◌, ⊎_elim, ℕ, ◌+◌, ◌-◌, ◌<◌, ◌≤◌, List, length, get_or, Option, Some, None, sym, ap, ◌∙◌, subst, arith}
use Rattle.std.specs.Prelude.{IsSomeAnd, slice_get}
use Rattle.std.specs.Global.{Box}
use Rattle.std.proofs.lemmas.Option.{slice_get_cases, slice_get_within}
use Rattle.og_cond.specs.Condition.{Condition}
use Rattle.og_pool.specs.Answers.{AreAnswers}
use Rattle.og_find.specs.Found.{IsVerdict}
use Rattle.og_find.specs.declared.verdict.Verdict.{Verdict}
use Rattle.og_find_all.specs.Findings.{verdict_at, own_or, verdict_of, AreVerdicts, IsVerdictAt, AreKnown, IsServed, IsChecked}
use Rattle.og_find_all.specs.declared.findings.Findings.{Findings}

-- a task that is served has a verdict that is true of it
served : (cs : List Condition) (known : List (Option ℕ)) (verdicts : List Verdict) (place i : ℕ) (v : Verdict) → AreKnown cs verdicts known
    → slice_get verdicts place ≡ Some v → (slice_get known i ≡ Some (Some place)) ⊎ IsVerdictAt cs i v → IsVerdictAt cs i v
served cs known verdicts place i v all at which = ⊎_elim
    (λ (noted : slice_get known i ≡ Some (Some place)).
    let its = all i place noted in
    let there = its.1 in
    let same : its.0 ≡ v = cc in
    subst (λ w. IsVerdictAt cs i w) same its.2)
    (λ (shared : IsVerdictAt cs i v). shared)
    which

by_own : (cs : List Condition) (f : Findings) (known : List (Option ℕ)) (i : ℕ) (c : Condition) (a : Option (Box Verdict)) → AreKnown cs f.verdicts.items known
    → slice_get cs i ≡ Some c → slice_get f.own.items i ≡ Some a → IsChecked cs f.places.items known f.verdicts.items (i + 1) a → IsSomeAnd (verdict_of f i) (IsVerdict c)
by_own cs f known i c None searched at own checked =
    let back : i + 1 - 1 ≡ i = omega arith in
    let its : IsServed cs f.places.items known f.verdicts.items i = subst (IsServed cs f.places.items known f.verdicts.items) back checked in
    let shared = verdict_at f.verdicts.items (slice_get f.places.items i) in
    let is : verdict_of f i ≡ Some its.1 = ap (λ o. own_or o shared) own ∙ ap (verdict_at f.verdicts.items) its.2 ∙ its.3 in
    subst (λ o. IsSomeAnd o (IsVerdict c)) (sym is) (served cs known f.verdicts.items its.0 i its.1 searched its.3 its.4 c at)
by_own cs f known i c (Some verdict) searched at own checked =
    let back : i + 1 - 1 ≡ i = omega arith in
    let its : IsVerdictAt cs i verdict.value = subst (λ (k : ℕ). IsVerdictAt cs k verdict.value) back checked in
    let shared = verdict_at f.verdicts.items (slice_get f.places.items i) in
    let is : verdict_of f i ≡ Some verdict.value = ap (λ o. own_or o shared) own in
    subst (λ o. IsSomeAnd o (IsVerdict c)) (sym is) (its c at)

all_verdicts : (cs : List Condition) (f : Findings) (known : List (Option ℕ)) (m : ℕ) → AreKnown cs f.verdicts.items known
    → AreAnswers m (λ k a. IsChecked cs f.places.items known f.verdicts.items k a) f.own.items → m ≡ length cs → AreVerdicts cs f
all_verdicts cs f known m searched checked len = (
  checked.0 ∙ len,
  λ i c at. ⊎_elim
      (λ (some : (a : Option (Box Verdict)) × (i < length f.own.items) × (slice_get f.own.items i ≡ Some a) × (get_or f.own.items i a ≡ a)).
      by_own cs f known i c some.0 searched at some.2 (checked.1 i some.0 some.2))
      (λ (none : (length f.own.items ≤ i) × (slice_get f.own.items i ≡ None)).
      let past = none.0 in
      let all = checked.0 in
      let within = slice_get_within cs i c at in absurd (omega (arith, past, all, len, within)))
      (slice_get_cases f.own.items i).1,
)

-- the same, where the lists that the workers read are equal to these
pub are_verdicts : (cs : List Condition) (f : Findings) (known known' : List (Option ℕ)) (places : List ℕ) (verdicts : List Verdict) (m : ℕ) → known' ≡ known → places ≡ f.places.items → verdicts ≡ f.verdicts.items
    → AreKnown cs f.verdicts.items known → AreAnswers m (λ k a. IsChecked cs places known' verdicts k a) f.own.items → m ≡ length cs → AreVerdicts cs f
are_verdicts cs f known known' places verdicts m same ps vs searched checked len =
    all_verdicts cs f known m searched
    (subst (λ ws. AreAnswers m (λ k a. IsChecked cs f.places.items known ws k a) f.own.items) vs
    (subst (λ qs. AreAnswers m (λ k a. IsChecked cs qs known verdicts k a) f.own.items) ps
    (subst (λ xs. AreAnswers m (λ k a. IsChecked cs places xs verdicts k a) f.own.items) same checked)))
    len
