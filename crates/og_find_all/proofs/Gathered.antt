-- Verdicts that are known to be true of conditions.
use Rattle.std.proofs.Common.{◌≡◌, ◌≢◌, ⊎_elim, ℕ, ◌+◌, ◌-◌, ◌<◌, ◌≤◌, zero, suc, List, [], ◌∷◌, ◌++◌, length, get_or, Option, Some, None, refl, sym, ◌∙◌, subst, arith, eqb, true, false}
use Rattle.std.specs.Prelude.{slice_get}
use Rattle.std.proofs.lemmas.Option.{slice_get_cases, slice_get_within}
use Rattle.std.proofs.lemmas.Bool.Decides.{eqb_tells}
use Rattle.og_cond.specs.Condition.{Condition}
use Rattle.og_pool.specs.Answers.{AreAnswers}
use Rattle.og_find.specs.declared.verdict.Verdict.{Verdict}
use Rattle.og_find_all.specs.Findings.{IsVerdictAt, IsSearched, AreOfFirsts, IsKnownAt, AreKnown}
use Rattle.og_find_all.proofs.Filed.{front, last_of}

-- what searches of first conditions found
pub of_leaders : (cs : List Condition) (leaders : List ℕ) (verdicts : List Verdict) (n : ℕ) → AreAnswers n (λ k w. IsSearched cs leaders k w) verdicts → n ≡ length leaders
    → AreOfFirsts cs leaders verdicts
of_leaders cs leaders verdicts n h len = (
  sym (h.0 ∙ len),
  λ place i v first at.
      let back : place ≡ place + 1 - 1 = omega arith in
      h.1 place v at i (subst (λ (k : ℕ). slice_get leaders k ≡ Some i) back first),
)

-- one condition more of which nothing is noted
pub none_more : (cs : List Condition) (verdicts : List Verdict) (known : List (Option ℕ)) → AreKnown cs verdicts known → AreKnown cs verdicts (known ++ None ∷ [])
none_more cs verdicts known h = go known (λ i place. IsKnownAt cs verdicts i place) h
  where
    go : (known : List (Option ℕ)) (P : ℕ → ℕ → Type 0) → ((i place : ℕ) → slice_get known i ≡ Some (Some place) → P i place)
        → (i place : ℕ) → slice_get (known ++ None ∷ []) i ≡ Some (Some place) → P i place
    go [] P h zero place at = absurd (cc)
    go [] P h (suc i) place at = absurd (cc)
    go (x ∷ xs) P h zero place at = h zero place at
    go (x ∷ xs) P h (suc i) place at = go xs (λ j. P (suc j)) (λ j. h (suc j)) i place at

-- a note at one place, and the others as before
pub noted : (cs : List Condition) (verdicts : List Verdict) (before after : List (Option ℕ)) (index place : ℕ)
    → slice_get after index ≡ Some (Some place) → ((i : ℕ) → i ≢ index → slice_get after i ≡ slice_get before i)
    → IsKnownAt cs verdicts index place → AreKnown cs verdicts before → AreKnown cs verdicts after
noted cs verdicts before after index place here others its h i p at = ⊎_elim
    (λ (e : (eqb i index ≡ true) × (i ≡ index)).
    let same = e.1 in
    let there : slice_get after index ≡ Some (Some p) = subst (λ (k : ℕ). slice_get after k ≡ Some (Some p)) same at in
    let equal : place ≡ p = cc in
    subst (λ (k : ℕ). IsKnownAt cs verdicts k p) (sym same) (subst (IsKnownAt cs verdicts index) equal its))
    (λ (e : (eqb i index ≡ false) × (i ≢ index)). h i p (sym (others i e.1) ∙ at))
    (eqb_tells i index)

-- the verdict of a leader at its own place
pub leader_known : (cs : List Condition) (leaders : List ℕ) (verdicts : List Verdict) (place i : ℕ) → AreOfFirsts cs leaders verdicts → slice_get leaders place ≡ Some i
    → IsKnownAt cs verdicts i place
leader_known cs leaders verdicts place i h first = ⊎_elim
    (λ (some : (v : Verdict) × (place < length verdicts) × (slice_get verdicts place ≡ Some v) × (get_or verdicts place v ≡ v)).
    (some.0, some.2, h.1 place i some.0 first some.2))
    (λ (none : (length verdicts ≤ place) × (slice_get verdicts place ≡ None)).
    let past = none.0 in
    let all = h.0 in
    let within = slice_get_within leaders place i first in absurd (omega (arith, past, all, within)))
    (slice_get_cases verdicts place).1

-- with one verdict more, what was known is known
pub known_more : (cs : List Condition) (verdicts : List Verdict) (v : Verdict) (known : List (Option ℕ)) → AreKnown cs verdicts known → AreKnown cs (verdicts ++ v ∷ []) known
known_more cs verdicts v known h i place at =
    let its = h i place at in
    (its.0, front verdicts (verdicts ++ v ∷ []) v place its.0 refl its.1, its.2)

-- and it is known at its own place
pub last_known : (cs : List Condition) (verdicts : List Verdict) (v : Verdict) (i : ℕ) → IsVerdictAt cs i v → IsKnownAt cs (verdicts ++ v ∷ []) i (length verdicts)
last_known cs verdicts v i its = (v, last_of verdicts (verdicts ++ v ∷ []) v refl, its)
