-- The value of a sum, of a multiple and of a form under a map.
use Rattle.std.proofs.Common.{◌≡◌, ℕ, ℤ, pos, ◌+ℤ◌, ◌*ℤ◌, List, [], ◌∷◌, Bool, true, false, cond, Some, refl, sym, ap, ap₂, ◌∙◌, subst, arith}
use Rattle.std.specs.Prelude.{nat_lt, ◌==◌, not, filter, ◌≢◌, ◌<◌, ◌+◌}
use Rattle.std.specs.Ordering.{int_eq}
use Rattle.std.proofs.lemmas.Int.{ints}
use Rattle.std.proofs.lemmas.Bool.{cond_both, cond-true, cond-false, ne_eqb, ltb-false, eqb-true, eqb-false}
use Rattle.std.proofs.lemmas.Bool.Decides.{Decides-int_eq}
use Rattle.std.proofs.lemmas.Option.{same_Some, cond_some, option_and_then_some}
use Rattle.std.proofs.Math.IntN.{*ℤ-zero, zero-*ℤ, +ℤ_idl, +ℤ_idr}
use Rattle.og_linear.specs.Linear.{Terms, FormValue, form_value, value_at, val_terms, val, put}
use Rattle.og_linear.specs.Tidy.{IsTidy, IsTidyFrom}
use Rattle.og_linear.specs.Arith.{with_term, scale_terms, merge_in, merge, scaled, plus}
use Rattle.og_linear.specs.Bounded.{add_scaled, MapValue, map_set, image, apply_terms, apply}
use Rattle.og_linear.specs.Replaced.{coefficient, without, replace}
use Rattle.og_linear.proofs.Put.{put_same, put_other}
use Rattle.og_linear.proofs.Ring.{mul-add, add-mul, mul_assoc, swap_middle, to_front}

-- ---- terms

pub val-with_term : (x : ℕ) (c : ℤ) (rest : Terms) (s : List ℤ) → val_terms (with_term x c rest) s ≡ c *ℤ value_at s x +ℤ val_terms rest s
val-with_term x c rest s =
    cond_both (int_eq c (pos 0)) rest ((x, c) ∷ rest) (λ ts. val_terms ts s ≡ c *ℤ value_at s x +ℤ val_terms rest s)
    (λ e. sym (ap (λ d. d *ℤ value_at s x +ℤ val_terms rest s) ((Decides-int_eq c (pos 0)).0 e) ∙ ap (λ d. d +ℤ val_terms rest s) (zero-*ℤ (value_at s x)) ∙ +ℤ_idl (val_terms rest s)))
    (λ e. refl)

pub val-scale_terms : (k : ℤ) (ts : Terms) (s : List ℤ) → val_terms (scale_terms k ts) s ≡ k *ℤ val_terms ts s
val-scale_terms k [] s = sym (*ℤ-zero k)
val-scale_terms k (t ∷ ts) s =
    val-with_term t.0 (k *ℤ t.1) (scale_terms k ts) s
    ∙ ap₂ ◌+ℤ◌ (mul_assoc k t.1 (value_at s t.0)) (val-scale_terms k ts s)
    ∙ sym (mul-add k (t.1 *ℤ value_at s t.0) (val_terms ts s))

val-merge_in : (t : ℕ × ℤ) (ts : Terms) (s : List ℤ) → ((us : Terms) → val_terms (merge ts us) s ≡ val_terms ts s +ℤ val_terms us s) → (us : Terms) → val_terms (merge_in t (merge ts) us) s ≡ val_terms (t ∷ ts) s +ℤ val_terms us s
val-merge_in t ts s h [] = ap (λ v. t.1 *ℤ value_at s t.0 +ℤ v) (h []) ∙ omega (arith, ints)
val-merge_in t ts s h (u ∷ us) =
    cond_both (nat_lt t.0 u.0) _ _ (λ r. val_terms r s ≡ val_terms (t ∷ ts) s +ℤ val_terms (u ∷ us) s)
    (λ e. ap (λ v. t.1 *ℤ value_at s t.0 +ℤ v) (h (u ∷ us)) ∙ omega (arith, ints))
    (λ e. cond_both (nat_lt u.0 t.0) _ _ (λ r. val_terms r s ≡ val_terms (t ∷ ts) s +ℤ val_terms (u ∷ us) s)
    (λ f. ap (λ v. u.1 *ℤ value_at s u.0 +ℤ v) (val-merge_in t ts s h us) ∙ to_front (u.1 *ℤ value_at s u.0) (val_terms (t ∷ ts) s) (val_terms us s))
    (λ f.
    let same : t.0 ≡ u.0 = omega (arith, ltb-false t.0 u.0 e, ltb-false u.0 t.0 f) in
    val-with_term t.0 (t.1 +ℤ u.1) (merge ts us) s
    ∙ ap₂ ◌+ℤ◌ (add-mul (value_at s t.0) t.1 u.1) (h us)
    ∙ swap_middle (t.1 *ℤ value_at s t.0) (u.1 *ℤ value_at s t.0) (val_terms ts s) (val_terms us s)
    ∙ ap (λ x. val_terms (t ∷ ts) s +ℤ (u.1 *ℤ value_at s x +ℤ val_terms us s)) same))

pub val-merge : (ts us : Terms) (s : List ℤ) → val_terms (merge ts us) s ≡ val_terms ts s +ℤ val_terms us s
val-merge [] us s = sym (+ℤ_idl (val_terms us s))
val-merge (t ∷ ts) us s = val-merge_in t ts s (λ vs. val-merge ts vs s) us

-- ---- forms

pub val-scaled : (k : ℤ) (f : FormValue) (s : List ℤ) → val (scaled k f) s ≡ k *ℤ val f s
val-scaled k f s = ap (λ v. v +ℤ k *ℤ f.constant) (val-scale_terms k f.terms s) ∙ sym (mul-add k (val_terms f.terms s) f.constant)

pub val-plus : (f g : FormValue) (s : List ℤ) → val (plus f g) s ≡ val f s +ℤ val g s
val-plus f g s = ap (λ v. v +ℤ (f.constant +ℤ g.constant)) (val-merge f.terms g.terms s) ∙ swap_middle (val_terms f.terms s) (val_terms g.terms s) f.constant g.constant

pub val-add_scaled : (f : FormValue) (k : ℤ) (g r : FormValue) (s : List ℤ) → add_scaled f k g ≡ Some r → val r s ≡ val f s +ℤ k *ℤ val g s
val-add_scaled f k g r s e =
    ap (λ h. val h s) (sym (cond_some _ _ r e).1) ∙ val-plus f (scaled k g) s ∙ ap (λ v. val f s +ℤ v) (val-scaled k g s)

-- ---- maps

twice : {A : Type 0} (b : Bool) (g h r : A) → cond b g r ≡ cond b g (cond b h r)
twice true g h r = refl
twice false g h r = refl

pub image-map_set : (m : MapValue) (x : ℕ) (g : FormValue) (y : ℕ) → image (map_set m x g) y ≡ cond (y == x) g (image m y)
image-map_set [] x g y = refl
image-map_set (e ∷ m) x g y = go (image-map_set m x g y) (x == e.0) refl
  where
    go : image (map_set m x g) y ≡ cond (y == x) g (image m y) → (b : Bool) → (x == e.0) ≡ b → image (cond b ((x, g) ∷ m) (e ∷ map_set m x g)) y ≡ cond (y == x) g (image (e ∷ m) y)
    go h true p = subst (λ z. cond (y == x) g (image m y) ≡ cond (y == x) g (cond (y == z) e.1 (image m y))) (eqb-true x e.0 p) (twice (y == x) g e.1 (image m y))
    go h false p =
        cond_both (y == e.0) e.1 (image (map_set m x g) y) (λ r. r ≡ cond (y == x) g (image (e ∷ m) y))
        (λ q. sym (cond-false (y == x) g _ (ne_eqb y x (λ r. eqb-false x e.0 p (sym r ∙ eqb-true y e.0 q))) ∙ cond-true (y == e.0) e.1 (image m y) q))
        (λ q. h ∙ ap (λ r. cond (y == x) g r) (sym (cond-false (y == e.0) e.1 (image m y) q)))

-- ---- forms in place of variables

-- t gives each variable the value that its form has at s
abbrev pub Shows : MapValue → List ℤ → List ℤ → Type 0
Shows m s t = (x : ℕ) → value_at t x ≡ val (image m x) s

val-apply_terms : (m : MapValue) (ts : Terms) (sum r : FormValue) (s t : List ℤ) → Shows m s t → apply_terms m ts sum ≡ Some r → val r s ≡ val sum s +ℤ val_terms ts t
val-apply_terms m [] sum r s t shows e = ap (λ h. val h s) (sym (same_Some sum r e)) ∙ sym (+ℤ_idr (val sum s))
val-apply_terms m (u ∷ us) sum r s t shows e =
    option_and_then_some (apply_terms m us) (add_scaled sum u.1 (image m u.0)) r e
    (λ next f g.
    val-apply_terms m us next r s t shows g
    ∙ ap (λ v. v +ℤ val_terms us t) (val-add_scaled sum u.1 (image m u.0) next s f ∙ ap (λ v. val sum s +ℤ u.1 *ℤ v) (sym (shows u.0)))
    ∙ omega (arith, ints))

pub val-apply : (m : MapValue) (f r : FormValue) (s t : List ℤ) → apply m f ≡ Some r → Shows m s t → val r s ≡ val f t
val-apply m f r s t e shows = val-apply_terms m f.terms (form_value [] f.constant) r s t shows e ∙ omega (arith, ints)

-- beyond the variable that is put, nothing changes
val-put_past : (ts : Terms) (low x : ℕ) (v : ℤ) (s : List ℤ) → IsTidyFrom low ts → x < low → val_terms ts (put s x v) ≡ val_terms ts s
val-put_past [] low x v s tidy past = refl
val-put_past (t ∷ ts) low x v s tidy past =
    let other : t.0 ≢ x = omega (arith, tidy.0, past) in
    ap₂ ◌+ℤ◌ (ap (λ w. t.1 *ℤ w) (put_other s x t.0 v other)) (val-put_past ts (t.0 + 1) x v s tidy.2 (omega (arith, tidy.0, past)))

-- no term of x stands beyond it
filter_past : (ts : Terms) (low x : ℕ) → IsTidyFrom low ts → x < low → filter (λ t. not (x == t.0)) ts ≡ ts
filter_past [] low x tidy past = refl
filter_past (t ∷ ts) low x tidy past =
    cond-true (not (x == t.0)) _ _ (ap not (ne_eqb x t.0 (λ e. omega (arith, e, tidy.0, past))))
    ∙ ap (λ us. t ∷ us) (filter_past ts (t.0 + 1) x tidy.2 (omega (arith, tidy.0, past)))

coefficient_past : (ts : Terms) (low x : ℕ) → IsTidyFrom low ts → x < low → coefficient x ts ≡ pos 0
coefficient_past [] low x tidy past = refl
coefficient_past (t ∷ ts) low x tidy past =
    cond-false (x == t.0) _ _ (ne_eqb x t.0 (λ e. omega (arith, e, tidy.0, past)))
    ∙ coefficient_past ts (t.0 + 1) x tidy.2 (omega (arith, tidy.0, past))

-- the terms at the changed state: those without x, and once the value that was put
pub val-put : (ts : Terms) (low x : ℕ) (v : ℤ) (s : List ℤ) → IsTidyFrom low ts → val_terms ts (put s x v) ≡ val_terms (filter (λ t. not (x == t.0)) ts) s +ℤ coefficient x ts *ℤ v
val-put [] low x v s tidy = sym (+ℤ_idl (pos 0 *ℤ v) ∙ zero-*ℤ v)
val-put (t ∷ ts) low x v s tidy = go (val-put ts (t.0 + 1) x v s tidy.2) (x == t.0) refl
  where
    go : val_terms ts (put s x v) ≡ val_terms (filter (λ u. not (x == u.0)) ts) s +ℤ coefficient x ts *ℤ v → (b : Bool) → (x == t.0) ≡ b → val_terms (t ∷ ts) (put s x v) ≡ val_terms (cond (not b) (t ∷ filter (λ u. not (x == u.0)) ts) (filter (λ u. not (x == u.0)) ts)) s +ℤ cond b t.1 (coefficient x ts) *ℤ v
    go h true e =
        let same : x ≡ t.0 = eqb-true x t.0 e in
        let past : x < t.0 + 1 = omega (arith, same) in
        ap₂ ◌+ℤ◌
        (ap (λ w. t.1 *ℤ w) (ap (value_at (put s x v)) (sym same) ∙ put_same s x v))
        (val-put_past ts (t.0 + 1) x v s tidy.2 past ∙ ap (λ us. val_terms us s) (sym (filter_past ts (t.0 + 1) x tidy.2 past)))
        ∙ omega (arith, ints)
    go h false e =
        let other : t.0 ≢ x = λ q. eqb-false x t.0 e (sym q) in
        ap₂ ◌+ℤ◌ (ap (λ w. t.1 *ℤ w) (put_other s x t.0 v other)) h
        ∙ omega (arith, ints)

pub val-replace : (x : ℕ) (g f r : FormValue) (s : List ℤ) → IsTidy f.terms → replace x g f ≡ Some r → val r s ≡ val f (put s x (val g s))
val-replace x g f r s tidy e =
    let moved = val-put f.terms 0 x (val g s) s tidy in
    let added = val-add_scaled (without x f) (coefficient x f.terms) g r s e in
    omega (arith, ints, moved, added)
