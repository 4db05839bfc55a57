-- Two forms of one variable that close at sight.
use Rattle.std.proofs.Common.{◌≡◌, ℕ, ℤ, pos, ◌+ℤ◌, ◌*ℤ◌, List, [], ◌∷◌, Bool, true, false, ◌&&◌, cond, Some, None, Ok, Err, ok_or, refl, sym, ap, ap₂, ◌∙◌, subst, arith}
use Rattle.std.specs.Prelude.{int_lt, slice_get}
use Rattle.std.specs.Ordering.{int_eq}
use Rattle.std.proofs.lemmas.Int.{ints}
use Rattle.std.proofs.lemmas.Bool.{cond_both, cond-true, cond-false, le-ltb, both_ways}
use Rattle.std.proofs.lemmas.Bool.Decides.{Decides-int_eq}
use Rattle.std.proofs.lemmas.Option.{none-some, same_Some}
use Rattle.std.specs.Prelude.{nat_lt}
use Rattle.og_linear.specs.Linear.{Terms, FormValue, form_value}
use Rattle.og_linear.specs.Arith.{with_term, merge, scaled, plus}
use Rattle.og_linear.specs.Bounded.{fits_i128, fits_terms, fits_form, add_scaled}
use Rattle.og_linear.proofs.Steps.{and_both}
use Rattle.og_facts.specs.Facts.{Fact}
use Rattle.og_cert_text.specs.Tree.{Known}
use Rattle.og_cert.specs.declared.fault.FaultKind.TheVariants as kinds
use Rattle.og_cert.specs.declared.opposite.Single.{Single}
use Rattle.og_cert.specs.Checks.{ok_then, atom_at, closing, is_positive}
use Rattle.og_cert.specs.Opposite.{single_form, IsMixed, Opposes}

-- a term by itself
term_fits : (v : ℕ) (z : ℤ) → fits_i128 z ≡ true → fits_terms (with_term v z []) ≡ true
term_fits v z h =
    cond_both (int_eq z (pos 0)) [] ((v, z) ∷ []) (λ ts. fits_terms ts ≡ true)
    (λ e. refl)
    (λ e. and_both (fits_i128 z) true h refl)

-- opposite terms leave nothing
cancelled : (v : ℕ) (p q : ℤ) → p +ℤ q ≡ pos 0 → merge (with_term v p []) (with_term v q []) ≡ []
cancelled v p q h = go (int_eq p (pos 0)) (int_eq q (pos 0)) refl refl
  where
    go : (a b : Bool) → int_eq p (pos 0) ≡ a → int_eq q (pos 0) ≡ b → merge (cond a [] ((v, p) ∷ [])) (cond b [] ((v, q) ∷ [])) ≡ []
    go true true e f = refl
    go true false e f =
        let p_zero : p ≡ pos 0 = (Decides-int_eq p (pos 0)).0 e in
        let q_zero : q ≡ pos 0 = omega (arith, ints, h, p_zero) in
        absurd (both_ways (int_eq q (pos 0)) f ((Decides-int_eq q (pos 0)).1 q_zero))
    go false true e f =
        let q_zero : q ≡ pos 0 = (Decides-int_eq q (pos 0)).0 f in
        let p_zero : p ≡ pos 0 = omega (arith, ints, h, q_zero) in
        absurd (both_ways (int_eq p (pos 0)) e ((Decides-int_eq p (pos 0)).1 p_zero))
    go false false e f =
        cond-false (nat_lt v v) _ _ (le-ltb v v (omega arith))
        ∙ cond-false (nat_lt v v) _ _ (le-ltb v v (omega arith))
        ∙ ap (λ z. with_term v z []) h

added : (f g r : FormValue) (k : ℤ) → plus f (scaled k g) ≡ r → fits_form (scaled k g) ≡ true → fits_form r ≡ true → add_scaled f k g ≡ Some r
added f g r k e h i =
    ap (λ s. cond (fits_form (scaled k g) && fits_form s) (Some s) None) e
    ∙ cond-true (fits_form (scaled k g) && fits_form r) (Some r) None (and_both (fits_form (scaled k g)) (fits_form r) h i)

-- the sum of multiples of two such forms, if they oppose
pub opposed : (k m : ℕ) (x y : Single) (h : Opposes k x m y)
    → (first : FormValue) × (add_scaled (form_value [] (pos 0)) (pos k) (single_form x) ≡ Some first) × (add_scaled first (pos m) (single_form y) ≡ Some (form_value [] h.total))
opposed k m x y h =
    let p = pos k *ℤ x.coefficient in
    let q = pos m *ℤ y.coefficient in
    let a = pos k *ℤ x.constant in
    let b = pos m *ℤ y.constant in
    let first = form_value (with_term x.var p []) a in
    let start : pos 0 +ℤ a ≡ a = omega (arith, ints) in
    let own_fits : fits_form first ≡ true = and_both (fits_terms first.terms) (fits_i128 a) (term_fits x.var p h.terms.0) h.constants.0 in
    let one : add_scaled (form_value [] (pos 0)) (pos k) (single_form x) ≡ Some first =
    added (form_value [] (pos 0)) (single_form x) first (pos k) (ap (form_value first.terms) start) own_fits own_fits in
    let other = form_value (with_term y.var q []) b in
    let other_fits : fits_form other ≡ true = and_both (fits_terms other.terms) (fits_i128 b) (term_fits y.var q h.terms.1) h.constants.1 in
    let terms : merge first.terms other.terms ≡ [] =
    ap (λ (v : ℕ). merge (with_term v p []) (with_term y.var q [])) h.same ∙ cancelled y.var p q (sym h.terms.3) in
    let total_fits : fits_form (form_value [] h.total) ≡ true = ap fits_i128 h.constants.3 ∙ h.constants.2 in
    (first, one, added first (single_form y) (form_value [] h.total) (pos m) (ap₂ form_value terms (sym h.constants.3)) other_fits total_fits)

-- two facts that oppose close
pub closed : (n : ℕ) (fs : List Fact) (k i m j : ℕ) (x y : Single) → atom_at fs i ≡ Ok (single_form x) → atom_at fs j ≡ Ok (single_form y) → Opposes k x m y → closing n fs ((k, Known i) ∷ (m, Known j) ∷ []) ≡ Ok tt
closed n fs k i m j x y e f h =
    let sum = opposed k m x y h in
    ap (λ r. ok_then (ok_then (ok_then r (λ g. ok_or (add_scaled (form_value [] (pos 0)) (pos k) g) kinds.TooLarge)) (λ s. ok_then (ok_then (atom_at fs j) (λ g. ok_or (add_scaled s (pos m) g) kinds.TooLarge)) (λ t. Ok t))) (λ g. cond (is_positive g) (Ok tt) (Err kinds.NotClosed))) e
    ∙ ap (λ o. ok_then (ok_then (ok_or o kinds.TooLarge) (λ s. ok_then (ok_then (atom_at fs j) (λ g. ok_or (add_scaled s (pos m) g) kinds.TooLarge)) (λ t. Ok t))) (λ g. cond (is_positive g) (Ok tt) (Err kinds.NotClosed))) sum.1
    ∙ ap (λ r. ok_then (ok_then (ok_then r (λ g. ok_or (add_scaled sum.0 (pos m) g) kinds.TooLarge)) (λ t. Ok t)) (λ g. cond (is_positive g) (Ok tt) (Err kinds.NotClosed))) f
    ∙ ap (λ o. ok_then (ok_then (ok_or o kinds.TooLarge) (λ t. Ok t)) (λ g. cond (is_positive g) (Ok tt) (Err kinds.NotClosed))) sum.2
    ∙ ap (λ b. cond b (Ok tt) (Err kinds.NotClosed)) h.above

-- ---- what the code finds

pub only_term : (ts : Terms) (t : ℕ × ℤ) → slice_get ts 0 ≡ Some t → slice_get ts 1 ≡ None → ts ≡ t ∷ []
only_term [] t e f = absurd (none-some t e)
only_term (u ∷ []) t e f = ap (λ v. v ∷ []) (same_Some u t e)
only_term (u ∷ v ∷ ts) t e f = absurd (none-some v (sym f))

moved : (k m : ℕ) (c d z c' d' z' : ℤ) → c ≡ c' → d ≡ d' → z ≡ z' → IsMixed k c m d z → IsMixed k c' m d' z'
moved k m c d z c' d' z' e f g h =
    subst (λ w. IsMixed k c' m d' w) g (subst (λ w. IsMixed k c' m w z) f (subst (λ w. IsMixed k w m d z) e h))

pub opposing : (k m : ℕ) (x y : Single) (c d a p q b b' : ℤ) → x.var ≡ y.var → c ≡ x.coefficient → d ≡ y.coefficient → IsMixed k c m d a → a ≡ pos 0 → p ≡ x.constant → q ≡ y.constant → IsMixed k p m q b → b ≡ b' → int_lt (pos 0) b' ≡ true → Opposes k x m y
opposing k m x y c d a p q b b' same e f h zero_sum g i j is above = record {
  same = same;
  terms = moved k m c d a x.coefficient y.coefficient (pos 0) e f zero_sum h;
  total = b';
  constants = moved k m p q b x.constant y.constant b' g i is j;
  above = above;
}
