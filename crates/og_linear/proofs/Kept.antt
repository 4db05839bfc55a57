-- A form that is added once, and a form that a map leaves as it is.
use Rattle.std.proofs.Common.{◌≡◌, ◌≢◌, ℕ, ◌+◌, ◌<◌, ℤ, pos, ◌*ℤ◌, [], ◌∷◌, ◌++◌, Bool, true, false, ◌&&◌, ◌||◌, cond, Some, None, refl, sym, ap, ap₂, ◌∙◌, subst, arith, append_assoc, FitsSigned}
use mir.Syntax.{w128}
use Rattle.std.specs.Prelude.{nat_lt, not, option_and_then, ◌==◌}
use Rattle.std.specs.List.{list_all}
use Rattle.std.specs.Ordering.{int_eq}
use Rattle.std.proofs.lemmas.Bool.{lt-ltb, and_parts, false_from_ne_true, cond-false, both_ways}
use Rattle.std.proofs.lemmas.Bool.Decides.{Decides-int_eq}
use Rattle.std.proofs.lemmas.Int.{ints}
use Rattle.og_linear.specs.Linear.{Terms, FormValue, form_value}
use Rattle.og_linear.specs.Tidy.{IsTidyFrom, IsTidy}
use Rattle.og_linear.specs.Arith.{with_term, scale_terms, scaled, plus, variable}
use Rattle.og_linear.specs.Answer.{checked}
use Rattle.og_linear.specs.Bounded.{MapValue, names, image, apply_terms, apply, fits_i128, fits_terms, fits_form, add_scaled}
use Rattle.og_linear.proofs.Steps.{and_both, fits_from, none_behind}
use Rattle.og_linear.proofs.Pushed.{pushed}

-- ---- once

scale_one : (low : ℕ) (ts : Terms) → IsTidyFrom low ts → scale_terms (pos 1) ts ≡ ts
scale_one low [] h = refl
scale_one low (t ∷ ts) h =
    let one : pos 1 *ℤ t.1 ≡ t.1 = omega (arith, ints) in
    ap (λ c. with_term t.0 c (scale_terms (pos 1) ts)) one
    ∙ cond-false (int_eq t.1 (pos 0)) (scale_terms (pos 1) ts) (t ∷ scale_terms (pos 1) ts) (false_from_ne_true (int_eq t.1 (pos 0)) (λ e. h.1 ((Decides-int_eq t.1 (pos 0)).0 e)))
    ∙ ap (λ us. t ∷ us) (scale_one (t.0 + 1) ts h.2)

-- a form added once: the sum, if it fits
pub once : (f g : FormValue) → IsTidy g.terms → fits_form g ≡ true → add_scaled f (pos 1) g ≡ checked (plus f g)
once f g h fits =
    let one : pos 1 *ℤ g.constant ≡ g.constant = omega (arith, ints) in
    let own : scaled (pos 1) g ≡ g = ap₂ form_value (scale_one 0 g.terms h) one in
    ap (λ s. cond (fits_form s && fits_form (plus f s)) (Some (plus f s)) None) own
    ∙ ap (λ b. cond (b && fits_form (plus f g)) (Some (plus f g)) None) fits

-- ---- kept

image_none : (m : MapValue) (x : ℕ) → not (names m x) ≡ true → image m x ≡ variable x
image_none [] x h = refl
image_none (e ∷ m) x h = go (x == e.0) h (image_none m x)
  where
    go : (b : Bool) → not (b || names m x) ≡ true → (not (names m x) ≡ true → image m x ≡ variable x) → cond b e.1 (image m x) ≡ variable x
    go true k rest = absurd (both_ways true (sym k) refl)
    go false k rest = rest k

-- what the terms before one are, and that one
before : (low : ℕ) (front : Terms) (t : ℕ × ℤ) (ts : Terms) → IsTidyFrom low (front ++ t ∷ ts) → (list_all (λ u. nat_lt u.0 t.0) front ≡ true) × (t.1 ≢ pos 0) × (low < t.0 + 1)
before low [] t ts h = (refl, h.1, h.0)
before low (u ∷ us) t ts h =
    let rest = before (u.0 + 1) us t ts h.2 in
    (and_both (nat_lt u.0 t.0) (list_all (λ v. nat_lt v.0 t.0) us) (lt-ltb u.0 t.0 (omega (arith, rest.2))) rest.0, rest.1, omega (arith, rest.2, h.0))

fits_parts : (front : Terms) (t : ℕ × ℤ) (ts : Terms) → fits_terms (front ++ t ∷ ts) ≡ true → (fits_terms front ≡ true) × (fits_i128 t.1 ≡ true)
fits_parts [] t ts h = (refl, (and_parts (fits_i128 t.1) (fits_terms ts) h).0)
fits_parts (u ∷ us) t ts h =
    let both = and_parts (fits_i128 u.1) (fits_terms (us ++ t ∷ ts)) h in
    let rest = fits_parts us t ts both.1 in
    (and_both (fits_i128 u.1) (fits_terms us) both.0 rest.0, rest.1)

kept_from : (m : MapValue) (front ts : Terms) (c : ℤ) → IsTidy (front ++ ts) → fits_terms (front ++ ts) ≡ true → FitsSigned w128 c → list_all (λ t. not (names m t.0)) ts ≡ true
    → apply_terms m ts (form_value front c) ≡ Some (form_value (front ++ ts) c)
kept_from m front [] c h fits range k = ap (λ ts. Some (form_value ts c)) (sym (none_behind front))
kept_from m front (t ∷ ts) c h fits range k =
    let both = and_parts (not (names m t.0)) (list_all (λ u. not (names m u.0)) ts) k in
    let place = before 0 front t ts h in
    let parts = fits_parts front t ts fits in
    let sum = form_value front c in
    let seam = append_assoc front (t ∷ []) ts in
    let own : image m t.0 ≡ variable t.0 = image_none m t.0 both.0 in
    let step = pushed sum t.0 t.1 place.1 (fits_from t.1 parts.1) parts.0 range place.0 in
    ap (λ f. option_and_then (apply_terms m ts) (add_scaled sum t.1 f)) own
    ∙ ap (λ o. option_and_then (apply_terms m ts) o) step
    ∙ kept_from m (front ++ t ∷ []) ts c (subst IsTidy (sym seam) h) (subst (λ us. fits_terms us ≡ true) (sym seam) fits) range both.1
    ∙ ap (λ us. Some (form_value us c)) seam

-- a map that names none of the variables: the form as it is
pub kept : (m : MapValue) (f : FormValue) → IsTidy f.terms → fits_form f ≡ true → list_all (λ t. not (names m t.0)) f.terms ≡ true → apply m f ≡ Some f
kept m f h fits k =
    let both = and_parts (fits_terms f.terms) (fits_i128 f.constant) fits in
    kept_from m [] f.terms f.constant h both.0 (fits_from f.constant both.1) k
