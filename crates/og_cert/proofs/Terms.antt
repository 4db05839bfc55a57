-- The terms of a form, one by one.
use Rattle.std.proofs.Common.{◌≡◌, ℕ, zero, suc, ◌+◌, ◌<◌, ◌≤◌, ℤ, [], ◌∷◌, ◌&&◌, drop, Bool, true, false, Some, None, refl, sym, ap, ◌∙◌, subst, arith, drop-cons, add-one}
use Rattle.std.specs.Prelude.{slice_get, nat_lt}
use Rattle.std.specs.List.{list_all}
use Rattle.std.proofs.lemmas.Option.{slice_get_within, get_or_from_slice_get, none-some}
use Rattle.std.proofs.lemmas.Bool.Decides.{nat_tests}
use Rattle.og_linear.specs.Linear.{Terms}
use Rattle.og_linear.specs.Tidy.{IsTidy, IsTidyFrom}

pub some_term : (ts : Terms) (t : ℕ × ℤ) → slice_get ts 0 ≡ Some t → list_all (λ t. false) ts ≡ false
some_term [] t e = absurd (cc)
some_term (u ∷ ts) t e = refl

pub no_term : (ts : Terms) → slice_get ts 0 ≡ None → list_all (λ t. false) ts ≡ true
no_term [] e = refl
no_term (t ∷ ts) e = absurd (cc)

-- the variables rise, so a term's variable is no less than its place
rises : (ts : Terms) (low i : ℕ) (t : ℕ × ℤ) → IsTidyFrom low ts → slice_get ts i ≡ Some t → low + i ≤ t.0
rises [] low i t h e = absurd (cc)
rises (u ∷ ts) low zero t h e =
    let same : u ≡ t = cc in
    let first : low < u.0 + 1 = h.0 in
    subst (λ v. low + 0 ≤ v.0) same (omega arith)
rises (u ∷ ts) low (suc i) t h e =
    let rest = rises ts (u.0 + 1) i t h.2 e in
    let first : low < u.0 + 1 = h.0 in
    omega (arith, rest)

pub place_of_term : (ts : Terms) (i : ℕ) (t : ℕ × ℤ) → IsTidy ts → slice_get ts i ≡ Some t → i ≤ t.0
place_of_term ts i t h e = omega (arith, rises ts 0 i t h e)

-- ---- whether each variable is below n

abbrev pub below : ℕ → Terms → Bool
below n = list_all (λ t. nat_lt t.0 n)

at_term : (ts : Terms) (i : ℕ) (t : ℕ × ℤ) → slice_get ts i ≡ Some t → drop i ts ≡ t ∷ drop (i + 1) ts
at_term ts i t e =
    drop-cons ts i t (slice_get_within ts i t e)
    ∙ ap (λ y. y ∷ drop (suc i) ts) (get_or_from_slice_get ts i t t e)
    ∙ ap (λ k. t ∷ drop k ts) (sym (add-one i))

lt_true : (v n : ℕ) → v < n → nat_lt v n ≡ true
lt_true v n h = grind (arith, nat_tests)

lt_false : (v n : ℕ) → n ≤ v → nat_lt v n ≡ false
lt_false v n h = grind (arith, nat_tests)

pub below_turn : (n : ℕ) (ts : Terms) (i : ℕ) (t : ℕ × ℤ) → slice_get ts i ≡ Some t → t.0 < n → below n (drop (i + 1) ts) ≡ below n (drop i ts)
below_turn n ts i t e h = ap (λ b. b && below n (drop (i + 1) ts)) (sym (lt_true t.0 n h)) ∙ ap (below n) (sym (at_term ts i t e))

pub below_stops : (n : ℕ) (ts : Terms) (i : ℕ) (t : ℕ × ℤ) → slice_get ts i ≡ Some t → n ≤ t.0 → below n (drop i ts) ≡ false
below_stops n ts i t e h = ap (below n) (at_term ts i t e) ∙ ap (λ b. b && below n (drop (i + 1) ts)) (lt_false t.0 n h)

past : (ts : Terms) (i : ℕ) → slice_get ts i ≡ None → drop i ts ≡ []
past [] zero e = refl
past [] (suc i) e = refl
past (t ∷ ts) zero e = absurd (none-some t (sym e))
past (t ∷ ts) (suc i) e = past ts i e

pub below_end : (n : ℕ) (ts : Terms) (i : ℕ) → slice_get ts i ≡ None → below n (drop i ts) ≡ true
below_end n ts i e = ap (below n) (past ts i e)
