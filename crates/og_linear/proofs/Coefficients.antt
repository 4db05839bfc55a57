-- Terms as a finite map from variables to coefficients.
use Rattle.std.proofs.Common.{◌≡◌, ℕ, ◌+◌, ◌<◌, ℤ, pos, ◌+ℤ◌, ◌*ℤ◌, [], ◌∷◌, Bool, true, false, ◌&&◌, cond, if◌then◌else◌, Some, None, refl, sym, ap, ap₂, ◌∙◌, subst, arith, length, drop, get_or, drop-cons}
use Rattle.std.specs.Prelude.{nat_lt, ◌==◌, not, filter, IsSome, ◌↔◌}
use Rattle.std.specs.Ordering.{int_eq}
use Rattle.std.proofs.lemmas.Int.{ints}
use Rattle.std.proofs.lemmas.Bool.{cond_both, cond-true, cond-false, ne_eqb, eq-eqb, ltb-true, ltb-false, eqb-true, eqb-false, and_parts, both_ways}
use Rattle.std.proofs.lemmas.Bool.Decides.{Decides-int_eq}
use Rattle.std.proofs.Math.IntN.{*ℤ-zero, +ℤ_idl}
use Rattle.og_linear.specs.Linear.{Terms, FormValue}
use Rattle.og_linear.specs.Tidy.{IsTidyFrom, IsTidy}
use Rattle.og_linear.specs.Arith.{with_term, scale_terms, merge_in, merge, scaled, plus}
use Rattle.og_linear.specs.Bounded.{fits_i128, fits_terms, fits_form, add_scaled}
use Rattle.og_linear.specs.Replaced.{coefficient, without, EachFits}
use Rattle.og_linear.proofs.Steps.{tidy_scale, tidy_merge}

-- below the first variable no term has a coefficient
pub coefficient_past : (ts : Terms) (low x : ℕ) → IsTidyFrom low ts → x < low → coefficient x ts ≡ pos 0
coefficient_past [] low x tidy past = refl
coefficient_past (t ∷ ts) low x tidy past =
    cond-false (x == t.0) _ _ (ne_eqb x t.0 (λ e. omega (arith, e, tidy.0, past)))
    ∙ coefficient_past ts (t.0 + 1) x tidy.2 (omega (arith, tidy.0, past))

-- ---- one term, multiples and sums

with_zero : (x y : ℕ) (c : ℤ) (rest : Terms) → IsTidyFrom (x + 1) rest → c ≡ pos 0 → coefficient y rest ≡ cond (y == x) c (coefficient y rest)
with_zero x y c rest tidy zero =
    cond_both (y == x) c (coefficient y rest) (λ r. coefficient y rest ≡ r)
    (λ e. coefficient_past rest (x + 1) y tidy (omega (arith, eqb-true y x e)) ∙ sym zero)
    (λ e. refl)

coefficient-with_term : (x y : ℕ) (c : ℤ) (rest : Terms) → IsTidyFrom (x + 1) rest → coefficient y (with_term x c rest) ≡ cond (y == x) c (coefficient y rest)
coefficient-with_term x y c rest tidy =
    cond_both (int_eq c (pos 0)) rest ((x, c) ∷ rest) (λ ts. coefficient y ts ≡ cond (y == x) c (coefficient y rest))
    (λ e. with_zero x y c rest tidy ((Decides-int_eq c (pos 0)).0 e))
    (λ e. refl)

times_either : (k c d : ℤ) (b : Bool) → cond b (k *ℤ c) (k *ℤ d) ≡ k *ℤ cond b c d
times_either k c d true = refl
times_either k c d false = refl

pub coefficient-scale_terms : (k : ℤ) (ts : Terms) (low y : ℕ) → IsTidyFrom low ts → coefficient y (scale_terms k ts) ≡ k *ℤ coefficient y ts
coefficient-scale_terms k [] low y tidy = sym (*ℤ-zero k)
coefficient-scale_terms k (t ∷ ts) low y tidy =
    coefficient-with_term t.0 y (k *ℤ t.1) (scale_terms k ts) (tidy_scale k (t.0 + 1) ts tidy.2)
    ∙ ap (cond (y == t.0) (k *ℤ t.1)) (coefficient-scale_terms k ts (t.0 + 1) y tidy.2)
    ∙ times_either k t.1 (coefficient y ts) (y == t.0)

-- a term in front of a sum, whose variable the other terms lack
left_of_sum : (b : Bool) (c m n r : ℤ) → r ≡ m +ℤ n → (b ≡ true → n ≡ pos 0) → cond b c r ≡ cond b c m +ℤ n
left_of_sum true c m n r e none = let z = none refl in omega (arith, ints, z)
left_of_sum false c m n r e none = e

right_of_sum : (b : Bool) (c m n r : ℤ) → r ≡ m +ℤ n → (b ≡ true → m ≡ pos 0) → cond b c r ≡ m +ℤ cond b c n
right_of_sum true c m n r e none = let z = none refl in omega (arith, ints, z)
right_of_sum false c m n r e none = e

both_of_sum : (b : Bool) (c d m n r : ℤ) → r ≡ m +ℤ n → cond b (c +ℤ d) r ≡ cond b c m +ℤ cond b d n
both_of_sum true c d m n r e = refl
both_of_sum false c d m n r e = e

coefficient-merge_in : (t : ℕ × ℤ) (ts : Terms) (low y : ℕ) → IsTidyFrom low (t ∷ ts) → ((from : ℕ) (us : Terms) → IsTidyFrom from ts → IsTidyFrom from us → coefficient y (merge ts us) ≡ coefficient y ts +ℤ coefficient y us)
    → ((from : ℕ) (us : Terms) → IsTidyFrom from ts → IsTidyFrom from us → IsTidyFrom from (merge ts us))
    → (us : Terms) → IsTidyFrom low us → coefficient y (merge_in t (merge ts) us) ≡ coefficient y (t ∷ ts) +ℤ coefficient y us
coefficient-merge_in t ts low y h rec tidy [] k =
    left_of_sum (y == t.0) t.1 (coefficient y ts) (pos 0) (coefficient y (merge ts [])) (rec (t.0 + 1) [] h.2 tt) (λ e. refl)
coefficient-merge_in t ts low y h rec tidy (u ∷ us) k =
    cond_both (nat_lt t.0 u.0) _ _ (λ r. coefficient y r ≡ coefficient y (t ∷ ts) +ℤ coefficient y (u ∷ us))
    (λ e.
    let lt : t.0 < u.0 = ltb-true t.0 u.0 e in
    let later : IsTidyFrom (t.0 + 1) (u ∷ us) = (omega (arith, lt), k.1, k.2) in
    left_of_sum (y == t.0) t.1 (coefficient y ts) (coefficient y (u ∷ us)) (coefficient y (merge ts (u ∷ us))) (rec (t.0 + 1) (u ∷ us) h.2 later)
    (λ same. coefficient_past (u ∷ us) (t.0 + 1) y later (omega (arith, eqb-true y t.0 same))))
    (λ e. cond_both (nat_lt u.0 t.0) _ _ (λ r. coefficient y r ≡ coefficient y (t ∷ ts) +ℤ coefficient y (u ∷ us))
    (λ f.
    let lt : u.0 < t.0 = ltb-true u.0 t.0 f in
    let later : IsTidyFrom (u.0 + 1) (t ∷ ts) = (omega (arith, lt), h.1, h.2) in
    right_of_sum (y == u.0) u.1 (coefficient y (t ∷ ts)) (coefficient y us) (coefficient y (merge_in t (merge ts) us)) (coefficient-merge_in t ts (u.0 + 1) y later rec tidy us k.2)
    (λ same. coefficient_past (t ∷ ts) (u.0 + 1) y later (omega (arith, eqb-true y u.0 same))))
    (λ f.
    let same : u.0 ≡ t.0 = omega (arith, ltb-false t.0 u.0 e, ltb-false u.0 t.0 f) in
    let rest : IsTidyFrom (t.0 + 1) us = subst (λ x. IsTidyFrom (x + 1) us) same k.2 in
    coefficient-with_term t.0 y (t.1 +ℤ u.1) (merge ts us) (tidy (t.0 + 1) us h.2 rest)
    ∙ both_of_sum (y == t.0) t.1 u.1 (coefficient y ts) (coefficient y us) (coefficient y (merge ts us)) (rec (t.0 + 1) us h.2 rest)
    ∙ ap (λ x. coefficient y (t ∷ ts) +ℤ cond (y == x) u.1 (coefficient y us)) (sym same)))

pub coefficient-merge : (ts us : Terms) (low y : ℕ) → IsTidyFrom low ts → IsTidyFrom low us → coefficient y (merge ts us) ≡ coefficient y ts +ℤ coefficient y us
coefficient-merge [] us low y h k = sym (+ℤ_idl (coefficient y us))
coefficient-merge (t ∷ ts) us low y h k =
    coefficient-merge_in t ts low y h (λ from vs p q. coefficient-merge ts vs from y p q) (λ from vs p q. tidy_merge from ts vs p q) us k

-- ---- a form without a variable

neither : (b d : Bool) (c r s : ℤ) → r ≡ cond b (pos 0) s → (b ≡ true → d ≡ true → ⊥) → cond d c r ≡ cond b (pos 0) (cond d c s)
neither true true c r s e apart = absurd (apart refl refl)
neither true false c r s e apart = e
neither false d c r s e apart = ap (cond d c) e

pub coefficient-without : (f : FormValue) (x y : ℕ) → coefficient y (without x f).terms ≡ (if y == x then pos 0 else coefficient y f.terms)
coefficient-without f x y = go f.terms
  where
    step : (t : ℕ × ℤ) (ts : Terms) → coefficient y (filter (λ u. not (x == u.0)) ts) ≡ cond (y == x) (pos 0) (coefficient y ts) → (b : Bool) → (x == t.0) ≡ b
        → coefficient y (cond (not b) (t ∷ filter (λ u. not (x == u.0)) ts) (filter (λ u. not (x == u.0)) ts)) ≡ cond (y == x) (pos 0) (coefficient y (t ∷ ts))
    step t ts h true e =
        h ∙ cond_both (y == x) (pos 0) (coefficient y ts) (λ r. r ≡ cond (y == x) (pos 0) (coefficient y (t ∷ ts)))
        (λ q. sym (cond-true (y == x) _ _ q))
        (λ q. sym (cond-false (y == x) _ _ q ∙ cond-false (y == t.0) _ _ (ne_eqb y t.0 (λ r. eqb-false y x q (r ∙ sym (eqb-true x t.0 e))))))
    step t ts h false e =
        neither (y == x) (y == t.0) t.1 _ (coefficient y ts) h (λ p q. eqb-false x t.0 e (sym (eqb-true y x p) ∙ eqb-true y t.0 q))

    go : (ts : Terms) → coefficient y (filter (λ t. not (x == t.0)) ts) ≡ cond (y == x) (pos 0) (coefficient y ts)
    go [] = cond_both (y == x) (pos 0) (pos 0) (λ r. pos 0 ≡ r) (λ e. refl) (λ e. refl)
    go (t ∷ ts) = step t ts (go ts) (x == t.0) refl

-- ---- terms are known by their coefficients

at_front : (t : ℕ × ℤ) (ts : Terms) → coefficient t.0 (t ∷ ts) ≡ t.1
at_front t ts = cond-true (t.0 == t.0) _ _ (eq-eqb t.0 t.0 refl)

-- after the first variable
rest_same : (t u : ℕ × ℤ) (ts us : Terms) (x : ℕ) → t.0 ≡ u.0 → IsTidyFrom (t.0 + 1) ts → IsTidyFrom (u.0 + 1) us → coefficient x (t ∷ ts) ≡ coefficient x (u ∷ us) → coefficient x ts ≡ coefficient x us
rest_same t u ts us x same h k e = go (x == t.0) refl
  where
    go : (b : Bool) → (x == t.0) ≡ b → coefficient x ts ≡ coefficient x us
    go true q =
        let at : x ≡ t.0 = eqb-true x t.0 q in
        coefficient_past ts (t.0 + 1) x h (omega (arith, at)) ∙ sym (coefficient_past us (u.0 + 1) x k (omega (arith, at, same)))
    go false q =
        sym (cond-false (x == t.0) t.1 (coefficient x ts) q) ∙ e
        ∙ cond-false (x == u.0) u.1 (coefficient x us) (ap (λ y. x == y) (sym same) ∙ q)

pub same_terms : (a b : Terms) (low high : ℕ) → IsTidyFrom low a → IsTidyFrom high b → ((x : ℕ) → coefficient x a ≡ coefficient x b) → a ≡ b
same_terms [] [] low high h k e = refl
same_terms [] (u ∷ us) low high h k e = absurd (k.1 (sym (at_front u us) ∙ sym (e u.0)))
same_terms (t ∷ ts) [] low high h k e = absurd (h.1 (sym (at_front t ts) ∙ e t.0))
same_terms (t ∷ ts) (u ∷ us) low high h k e =
    let rest : t.0 ≡ u.0 → ts ≡ us = λ same. same_terms ts us (t.0 + 1) (u.0 + 1) h.2 k.2 (λ x. rest_same t u ts us x same h.2 k.2 (e x)) in
    go rest (nat_lt t.0 u.0) (nat_lt u.0 t.0) refl refl
  where
    go : (t.0 ≡ u.0 → ts ≡ us) → (b d : Bool) → nat_lt t.0 u.0 ≡ b → nat_lt u.0 t.0 ≡ d → t ∷ ts ≡ u ∷ us
    go rest true d p q =
        let lt : t.0 < u.0 = ltb-true t.0 u.0 p in
        absurd (h.1 (sym (at_front t ts) ∙ e t.0 ∙ coefficient_past (u ∷ us) (t.0 + 1) t.0 (omega (arith, lt), k.1, k.2) (omega arith)))
    go rest false true p q =
        let lt : u.0 < t.0 = ltb-true u.0 t.0 q in
        absurd (k.1 (sym (at_front u us) ∙ sym (e u.0) ∙ coefficient_past (t ∷ ts) (u.0 + 1) u.0 (omega (arith, lt), h.1, h.2) (omega arith)))
    go rest false false p q =
        let same : t.0 ≡ u.0 = omega (arith, ltb-false t.0 u.0 p, ltb-false u.0 t.0 q) in
        let equal : t.1 ≡ u.1 = sym (at_front t ts) ∙ e t.0 ∙ ap (λ x. coefficient x (u ∷ us)) same ∙ at_front u us in
        ap₂ (λ x xs. x ∷ xs) (ap₂ (λ x c. (x, c)) same equal) (rest same)

-- the term at i is that of x
pub coefficient_at : (ts : Terms) (i x : ℕ) → i < length ts → x ≡ (get_or ts i (0, pos 0)).0 → (get_or ts i (0, pos 0)).1 ≡ coefficient x (drop i ts)
coefficient_at ts i x h e =
    sym (ap (coefficient x) (drop-cons ts i (0, pos 0) h) ∙ cond-true (x == (get_or ts i (0, pos 0)).0) _ _ (eq-eqb x _ e))

-- ---- what fits

fits_at : (ts : Terms) (x : ℕ) → fits_terms ts ≡ true → fits_i128 (coefficient x ts) ≡ true
fits_at [] x h = refl
fits_at (t ∷ ts) x h =
    let both = and_parts (fits_i128 t.1) (fits_terms ts) h in
    cond_both (x == t.0) t.1 (coefficient x ts) (λ c. fits_i128 c ≡ true) (λ e. both.0) (λ e. fits_at ts x both.1)

and_of : (b d : Bool) → b ≡ true → d ≡ true → (b && d) ≡ true
and_of true d h k = k
and_of false d h k = h

fits_each : (ts : Terms) (low : ℕ) → IsTidyFrom low ts → ((x : ℕ) → fits_i128 (coefficient x ts) ≡ true) → fits_terms ts ≡ true
fits_each [] low h f = refl
fits_each (t ∷ ts) low h f =
    and_of (fits_i128 t.1) (fits_terms ts)
    (ap fits_i128 (sym (at_front t ts)) ∙ f t.0)
    (fits_each ts (t.0 + 1) h.2 (λ x. go x (x == t.0) refl))
  where
    go : (x : ℕ) (b : Bool) → (x == t.0) ≡ b → fits_i128 (coefficient x ts) ≡ true
    go x true e = ap fits_i128 (coefficient_past ts (t.0 + 1) x h.2 (omega (arith, eqb-true x t.0 e)))
    go x false e = ap fits_i128 (sym (cond-false (x == t.0) t.1 (coefficient x ts) e)) ∙ f x

some_if : (b : Bool) (r : FormValue) → IsSome (cond b (Some r) None) → b ≡ true
some_if true r h = refl
some_if false r h = h

if_some : (b : Bool) (r : FormValue) → b ≡ true → IsSome (cond b (Some r) None)
if_some true r h = refl
if_some false r h = absurd (both_ways false refl h)

-- f + k * g is there exactly where each product and each sum fits
pub each_fits : (f g : FormValue) (k : ℤ) → IsTidy f.terms → IsTidy g.terms → IsSome (add_scaled f k g) ↔ EachFits f k g
each_fits f g k hf hg = (forth, back)
  where
    product : (x : ℕ) → coefficient x (scale_terms k g.terms) ≡ k *ℤ coefficient x g.terms
    product x = coefficient-scale_terms k g.terms 0 x hg

    total : (x : ℕ) → coefficient x (merge f.terms (scale_terms k g.terms)) ≡ coefficient x f.terms +ℤ k *ℤ coefficient x g.terms
    total x = coefficient-merge f.terms (scale_terms k g.terms) 0 x hf (tidy_scale k 0 g.terms hg) ∙ ap (λ c. coefficient x f.terms +ℤ c) (product x)

    forth : IsSome (add_scaled f k g) → EachFits f k g
    forth h =
        let both = and_parts (fits_form (scaled k g)) (fits_form (plus f (scaled k g))) (some_if _ (plus f (scaled k g)) h) in
        let products = and_parts (fits_terms (scale_terms k g.terms)) (fits_i128 (k *ℤ g.constant)) both.0 in
        let sums = and_parts (fits_terms (merge f.terms (scale_terms k g.terms))) (fits_i128 (f.constant +ℤ k *ℤ g.constant)) both.1 in (
          (λ x. (
            ap fits_i128 (sym (product x)) ∙ fits_at (scale_terms k g.terms) x products.0,
            ap fits_i128 (sym (total x)) ∙ fits_at (merge f.terms (scale_terms k g.terms)) x sums.0,
          )),
          products.1,
          sums.1,
        )

    back : EachFits f k g → IsSome (add_scaled f k g)
    back h =
        if_some (fits_form (scaled k g) && fits_form (plus f (scaled k g))) (plus f (scaled k g))
        (and_of _ _
        (and_of _ _ (fits_each (scale_terms k g.terms) 0 (tidy_scale k 0 g.terms hg) (λ x. ap fits_i128 (product x) ∙ (h.0 x).0)) h.1)
        (and_of _ _ (fits_each (merge f.terms (scale_terms k g.terms)) 0 (tidy_merge 0 f.terms (scale_terms k g.terms) hf (tidy_scale k 0 g.terms hg)) (λ x. ap fits_i128 (total x) ∙ (h.0 x).1)) h.2))
