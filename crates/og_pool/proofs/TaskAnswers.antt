-- Lists of tasks with their answers.
use Rattle.std.proofs.Common.{◌≡◌, ℕ, zero, suc, max, ◌+◌, ◌-◌, ◌<◌, ◌≤◌, List, [], length, ◌∷◌, ◌++◌, Some, refl, sym, ap, subst, ⊎_elim, arith, eq-or-lt_of_le, eqb, true, false, if◌then◌else◌, ◌==◌, ◌≢◌, nat_le}
use Rattle.std.proofs.lemmas.Bool.Decides.{eqb_tells, nat_tests}
use Rattle.std.specs.Prelude.{slice_get}
use Rattle.og_pool.specs.declared.answered.TaskAnswer.{TaskAnswer}
use Rattle.std.proofs.lemmas.List.Elements.{All-append, All-nil, All-cons}
use Rattle.std.specs.List.{All, AllZip}
use Rattle.og_pool.specs.Drawing.{times}
use Rattle.og_pool.proofs.Steps.{weigh-append}
use Rattle.og_pool.specs.TaskAnswers.{HasAnswer, IsRight, DrawsDone}

slice_get_front : {A : Type 0} (xs ys : List (TaskAnswer A)) (k : ℕ) (t : TaskAnswer A) → slice_get xs k ≡ Some t → slice_get (xs ++ ys) k ≡ Some t
slice_get_front [] ys k t e = absurd (cc)
slice_get_front (x ∷ xs) ys zero t e = e
slice_get_front (x ∷ xs) ys (suc k) t e = slice_get_front xs ys k t e

pub has_answer_front : {A : Type 0} (xs ys : List (TaskAnswer A)) (n : ℕ) → HasAnswer xs n → HasAnswer (xs ++ ys) n
has_answer_front xs ys n h = (h.0, h.1, slice_get_front xs ys h.0 h.1 h.2, h.3)

pub has_answer_back : {A : Type 0} (xs ys : List (TaskAnswer A)) (n : ℕ) → HasAnswer ys n → HasAnswer (xs ++ ys) n
has_answer_back [] ys n h = h
has_answer_back (x ∷ xs) ys n h = let r = has_answer_back xs ys n h in (suc r.0, r.1, r.2, r.3)

pub has_answer_last : {A : Type 0} (xs : List (TaskAnswer A)) (t : TaskAnswer A) → HasAnswer (xs ++ t ∷ []) t.number
has_answer_last xs t = has_answer_back xs (t ∷ []) t.number (0, t, refl, refl)

-- the least number above all of these
abbrev pub above : List ℕ → ℕ
above [] = 0
above (x ∷ xs) = max (suc x) (above xs)

pub above_below : (xs : List ℕ) (n : ℕ) → 0 < n → ((x : ℕ) → 0 < times x xs → x + 1 < n) → above xs < n
above_below [] n some h = some
above_below (y ∷ ys) n some h =
    let rest = above_below ys n some (λ x mine. h x (omega arith)) in
    let mine : 0 < times y (y ∷ ys) = grind (arith, nat_tests) in
    let first = h y mine in omega arith

pub above_push : (xs : List ℕ) (y : ℕ) → y < above (xs ++ y ∷ [])
above_push [] y = omega arith
above_push (x ∷ xs) y = let rest = above_push xs y in omega arith

-- a draw brings the end nearer
pub nearer : (xs ys : List ℕ) (n count : ℕ) → 0 < n → n ≤ count → ((x : ℕ) → 0 < times x xs → x + 1 < n) → ys ≡ xs ++ (n - 1) ∷ [] → count - above ys < count - above xs
nearer xs ys n count some less rising is =
    let old = above_below xs n some rising in
    let new : n - 1 < above ys = subst (λ (zs : List ℕ). n - 1 < above zs) (sym is) (above_push xs (n - 1)) in omega arith

-- one task more
pub has_answer_drawn : {A : Type 0} (xs ys : List ℕ) (answered : List (TaskAnswer A)) (t : TaskAnswer A) (n : ℕ) → 0 < n → t.number ≡ n → ys ≡ xs ++ (n - 1) ∷ [] → ((x : ℕ) → 0 < times x xs → HasAnswer answered (x + 1)) → (x : ℕ) → 0 < times x ys → HasAnswer (answered ++ t ∷ []) (x + 1)
has_answer_drawn xs ys answered t n some number is h x there =
    let sum = weigh-append (λ y. if y == x then 1 else 0) xs ((n - 1) ∷ []) in let same = ap (times x) is in ⊎_elim
    (λ (e : (eqb (n - 1) x ≡ true) × (n - 1 ≡ x)). let last : t.number ≡ x + 1 = let k = e.1 in omega arith in subst (HasAnswer (answered ++ t ∷ [])) last (has_answer_last answered t))
    (λ (e : (eqb (n - 1) x ≡ false) × (n - 1 ≢ x)). let before : 0 < times x xs = grind (arith, nat_tests) in has_answer_front answered (t ∷ []) (x + 1) (h x before))
    (eqb_tells (n - 1) x)

pub both_draws : {A : Type 0} (count : ℕ) (is : ℕ → A → Type 0) (xs ys zs : List ℕ) (answered more all : List (TaskAnswer A)) → zs ≡ xs ++ ys → all ≡ answered ++ more → DrawsDone count is xs answered → DrawsDone count is ys more → DrawsDone count is zs all
both_draws count is xs ys zs answered more all drawn same f g = rw (drawn, same) (
  (let a = weigh-append (λ y. if nat_le count y then 1 else 0) xs ys in let some = f.0 in omega arith),
  All-append (IsRight is) answered more f.1 g.1,
  λ x less there. let a = weigh-append (λ y. if y == x then 1 else 0) xs ys in ⊎_elim
      (λ (e : 0 ≡ times x xs). has_answer_back answered more (x + 1) (g.2 x less (omega arith)))
      (λ (l : 0 < times x xs). has_answer_front answered more (x + 1) (f.2 x less l))
      (eq-or-lt_of_le {n = 0} {m = times x xs} (omega arith)),
)

-- the gain owed for each part holds of each gain
pub each_gain : {A B : Type 0} (P : B → Type 0) (xs : List A) (ys : List B) → AllZip (λ _ y. P y) xs ys → (length ys ≡ length xs) × All P ys
each_gain P [] [] h = (refl, All-nil P)
each_gain P [] (y ∷ ys) h = absurd h
each_gain P (x ∷ xs) [] h = absurd h
each_gain P (x ∷ xs) (y ∷ ys) h = let rest = each_gain P xs ys h.1 in (ap suc rest.0, All-cons P y ys h.0 rest.1)
