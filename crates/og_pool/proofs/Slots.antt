-- Slots for answers.
use Rattle.std.proofs.Common.{◌≡◌, ◌≢◌, ℕ, zero, suc, ◌+◌, ◌-◌, ◌<◌, ◌≤◌, ◌⊎◌, inl, inr, ⊎_elim, List, [], ◌∷◌, ◌++◌, length, map, Option, Some, None, refl, sym, ap, ◌∙◌, subst, arith, eqb, true, false}
use Rattle.std.specs.Prelude.{slice_get, option_map, IsSome}
use Rattle.std.specs.List.{All}
use Rattle.std.proofs.lemmas.Bool.Decides.{eqb_tells}
use Rattle.std.proofs.lemmas.List.{length-map}
use Rattle.std.proofs.lemmas.List.Elements.{All-nil, All-cons}
use Rattle.std.proofs.lemmas.Option.{slice_get_within, get_or_from_slice_get, slice_get-map}
use Rattle.og_pool.specs.Answers.{AreAnswers}
use Rattle.og_pool.specs.TaskAnswers.{HasAnswer, IsRight, IsFilled, AreRight}
use Rattle.og_pool.specs.declared.answered.TaskAnswer.{TaskAnswer}

all_at : {X : Type 0} (P : X → Type 0) (xs : List X) (i : ℕ) (x : X) → All P xs → slice_get xs i ≡ Some x → P x
all_at P xs i x h at = subst P (get_or_from_slice_get xs i x x at) (h i x (slice_get_within xs i x at))

-- empty slots have no answers
pub none_right : {A : Type 0} (is : ℕ → A → Type 0) (slots : List (Option A)) → All (λ s. s ≡ None) slots → AreRight is slots
none_right is slots h i a at = let no : Some a ≡ None = all_at (λ s. s ≡ None) slots i (Some a) h at in absurd (cc)

-- a task is answered before the last one, or last
snoc_at : {A : Type 0} (xs : List (TaskAnswer A)) (t : TaskAnswer A) (n k : ℕ) (u : TaskAnswer A) → slice_get (xs ++ t ∷ []) k ≡ Some u → u.number ≡ n → HasAnswer xs n ⊎ (t.number ≡ n)
snoc_at {A} [] t n zero u at number = inr (let same : t ≡ u = cc in ap (λ (q : TaskAnswer A). q.number) same ∙ number)
snoc_at [] t n (suc k) u at number = absurd (cc)
snoc_at (x ∷ xs) t n zero u at number = inl (0, u, at, number)
snoc_at (x ∷ xs) t n (suc k) u at number = ⊎_elim
    (λ (h : HasAnswer xs n). inl (suc h.0, h.1, h.2, h.3))
    (λ (h : t.number ≡ n). inr h)
    (snoc_at xs t n k u at number)

-- one answer more in its slot
pub right_more : {A : Type 0} (is : ℕ → A → Type 0) (before after : List (Option A)) (t : TaskAnswer A) → IsRight is t → length after ≡ length before
    → (t.number ≤ length before → slice_get after (t.number - 1) ≡ Some (Some t.answer))
    → ((i : ℕ) → i ≢ t.number - 1 → slice_get after i ≡ slice_get before i) → AreRight is before → AreRight is after
right_more {A} is before after t right len here others h i a at = ⊎_elim
    (λ (e : (eqb i (t.number - 1) ≡ true) × (i ≡ t.number - 1)).
    let some = right.0 in
    let place = e.1 in
    let within = slice_get_within after i (Some a) at in
    let put = here (omega (arith, some, place, within, len)) in
    let got : slice_get after (t.number - 1) ≡ Some (Some a) = subst (λ (k : ℕ). slice_get after k ≡ Some (Some a)) place at in
    let same : t.answer ≡ a = cc in
    let number : t.number ≡ i + 1 = omega (arith, some, place) in
    subst (is (i + 1)) same (subst (λ (k : ℕ). is k t.answer) number right.1))
    (λ (e : (eqb i (t.number - 1) ≡ false) × (i ≢ t.number - 1)). h i a (sym (others i e.1) ∙ at))
    (eqb_tells i (t.number - 1))

pub filled_more : {A : Type 0} (count : ℕ) (before after : List (Option A)) (all answered rest : List (TaskAnswer A)) (t : TaskAnswer A) → 0 < t.number → length before ≡ count
    → answered ≡ rest ++ t ∷ []
    → (t.number ≤ length before → slice_get after (t.number - 1) ≡ Some (Some t.answer))
    → ((i : ℕ) → i ≢ t.number - 1 → slice_get after i ≡ slice_get before i)
    → ((n : ℕ) → 0 < n → n ≤ count → HasAnswer all n → HasAnswer answered n ⊎ IsFilled before (n - 1))
    → (n : ℕ) → 0 < n → n ≤ count → HasAnswer all n → HasAnswer rest n ⊎ IsFilled after (n - 1)
filled_more {A} count before after all answered rest t some len is here others h n above below given = ⊎_elim
    (λ (tells : HasAnswer answered n). let last = subst (λ (ts : List (TaskAnswer A)). HasAnswer ts n) is tells in ⊎_elim
    (λ (old : HasAnswer rest n). inl old)
    (λ (same : t.number ≡ n). inr (fills (ap (λ (k : ℕ). k - 1) (sym same))))
    (snoc_at rest t n last.0 last.1 last.2 last.3))
    (λ (was : IsFilled before (n - 1)). inr (⊎_elim
    (λ (e : (eqb (n - 1) (t.number - 1) ≡ true) × (n - 1 ≡ t.number - 1)). fills e.1)
    (λ (e : (eqb (n - 1) (t.number - 1) ≡ false) × (n - 1 ≢ t.number - 1)). (was.0, others (n - 1) e.1 ∙ was.1))
    (eqb_tells (n - 1) (t.number - 1))))
    (h n above below given)
  where
    fills : n - 1 ≡ t.number - 1 → IsFilled after (n - 1)
    fills place =
        let put = here (omega (arith, some, place, len, above, below)) in
        (t.answer, subst (λ (k : ℕ). slice_get after k ≡ Some (Some t.answer)) (sym place) put)

pub none_answered : {A : Type 0} (answered : List (TaskAnswer A)) (n : ℕ) → answered ≡ [] → HasAnswer answered n → ⊥
none_answered {A} answered n is tells = let no = subst (λ (ts : List (TaskAnswer A)). slice_get ts tells.0 ≡ Some tells.1) is tells.2 in absurd (cc)

-- slots that all have answers
pub all_filled : {A : Type 0} (slots : List (Option A)) → ((i : ℕ) → i < length slots → IsFilled slots i) → All (λ s. IsSome s) slots
all_filled [] f = All-nil (λ s. IsSome s)
all_filled {A} (s ∷ slots) f =
    let first = f 0 (omega arith) in
    let at = first.1 in
    let is : s ≡ Some first.0 = cc in
    All-cons (λ s. IsSome s) s slots (subst (λ (o : Option A). IsSome o) (sym is) refl)
    (all_filled slots (λ i below. f (suc i) (omega (arith, below))))

pub answers_of : {A : Type 0} (count : ℕ) (is : ℕ → A → Type 0) (slots : List (Option A)) (answers : List A) → length slots ≡ count → AreRight is slots → map Some answers ≡ slots → AreAnswers count is answers
answers_of {A} count is slots answers len right all = (
  sym (length-map answers Some) ∙ ap length all ∙ len,
  λ i a at. right i a (ap (λ (xs : List (Option A)). slice_get xs i) (sym all) ∙ slice_get-map Some answers i ∙ ap (option_map Some) at),
)
