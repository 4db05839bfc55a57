-- Forms within the limits.
use Rattle.std.proofs.Common.{◌≡◌, ◌≢◌, ℕ, zero, suc, ◌+◌, ◌<◌, ◌≤◌, [], ◌∷◌, take, length, get_or, refl, ap, sym, ◌∙◌, arith, Bool, ◌&&◌, true, false, ℤ, pos, negsuc, ◌^◌, FitsSigned, Some, None, ◌⊎◌, inl, inr}
use Rattle.std.specs.Prelude.{nat_le, nat_lt, not, slice_get}
use mir.Syntax.{w128}
use Rattle.std.specs.List.{list_all}
use Rattle.std.specs.Ordering.{int_eq}
use Rattle.std.proofs.lemmas.Bool.Decides.{Decides-int_eq, nat_tests}
use Rattle.std.proofs.lemmas.List.Folds.{list_all_more, list_all_at}
use Rattle.std.proofs.lemmas.List.{take_all}
use Rattle.std.proofs.lemmas.Option.{get_or_from_slice_get, slice_get_within, slice_get_cases}
use Rattle.og_linear.specs.Linear.{Terms, FormValue}
use Rattle.og_linear.specs.Tidy.{IsTidyFrom, IsTidy}
use Rattle.og_linear.specs.Bounded.{fits_i128, fits_terms, fits_form}
use Rattle.og_cert_text.specs.Lines.{is_form, is_variable, rises_from}

-- ---- tests

pub both_true : (a b : Bool) → a ≡ true → b ≡ true → (a && b) ≡ true
both_true true true p q = refl
both_true true false p q = q
both_true false b p q = p

pub and_parts : (a b : Bool) → (a && b) ≡ true → (a ≡ true) × (b ≡ true)
and_parts true b h = (refl, h)
and_parts false b h = cc

pub and_false_left : (a b : Bool) → a ≡ false → (a && b) ≡ false
and_false_left true b h = cc
and_false_left false b h = refl

pub and_false_right : (a b : Bool) → b ≡ false → (a && b) ≡ false
and_false_right true b h = h
and_false_right false b h = refl

pub le_true : (a b : ℕ) → a ≤ b → nat_le a b ≡ true
le_true a b h = grind (arith, nat_tests)

pub le_from : (a b : ℕ) → nat_le a b ≡ true → a ≤ b
le_from a b h = grind (arith, nat_tests)

pub le_false : (a b : ℕ) → b < a → nat_le a b ≡ false
le_false a b h = grind (arith, nat_tests)

pub lt_true : (a b : ℕ) → a < b → nat_lt a b ≡ true
lt_true a b h = grind (arith, nat_tests)

pub not_zero : (z : ℤ) → z ≢ pos 0 → not (int_eq z (pos 0)) ≡ true
not_zero z h = from (int_eq z (pos 0)) (Decides-int_eq z (pos 0)).0
  where
    from : (b : Bool) → (b ≡ true → z ≡ pos 0) → not b ≡ true
    from true f = absurd (h (f refl))
    from false f = refl

-- ---- tidy forms

pub tidy_rises : (low : ℕ) (ts : Terms) → IsTidyFrom low ts → rises_from low ts ≡ true
tidy_rises low [] h = refl
tidy_rises low (t ∷ ts) h =
    let up : low ≤ t.0 = omega arith in
    both_true _ _ (both_true _ _ (le_true low t.0 up) (not_zero t.1 h.1)) (tidy_rises (t.0 + 1) ts h.2)

-- the i-th variable is at least i
pub tidy_at : (ts : Terms) (low i : ℕ) → IsTidyFrom low ts → i < length ts → low + i ≤ (get_or ts i (0, pos 0)).0
tidy_at [] low i h lt = omega arith
tidy_at (t ∷ ts) low zero h lt = omega arith
tidy_at (t ∷ ts) low (suc i) h lt =
    let r = tidy_at ts (t.0 + 1) i h.2 (omega arith) in omega (arith, r)

pub form_holds : (f : FormValue) → IsTidy f.terms → fits_form f ≡ true → list_all (λ t. is_variable t.0) f.terms ≡ true → is_form f ≡ true
form_holds f tidy fits small = both_true _ _ (both_true _ _ fits (tidy_rises 0 f.terms tidy)) small

pub fits_from : (z : ℤ) → FitsSigned w128 z → fits_i128 z ≡ true
fits_from (pos n) h = lt_true n (2 ^ 127) (omega arith)
fits_from (negsuc n) h = lt_true n (2 ^ 127) (omega arith)

-- one term more
pub more_fit : (f : FormValue) (i v : ℕ) (a : ℤ) → slice_get f.terms i ≡ Some (v, a) → FitsSigned w128 a → v ≤ 999999999 → fits_terms (take i f.terms) ≡ true → list_all (λ t. is_variable t.0) (take i f.terms) ≡ true
    → (fits_terms (take (i + 1) f.terms) ≡ true) × (list_all (λ t. is_variable t.0) (take (i + 1) f.terms) ≡ true)
more_fit f i v a found range small fits within =
    let lt = slice_get_within f.terms i (v, a) found in
    let here : get_or f.terms i (v, a) ≡ (v, a) = get_or_from_slice_get f.terms i (v, a) (v, a) found in (
      list_all_more (λ t. fits_i128 t.1) f.terms i (v, a) lt ∙ both_true _ _ fits (ap (λ t. fits_i128 t.1) here ∙ fits_from a range),
      list_all_more (λ t. is_variable t.0) f.terms i (v, a) lt ∙ both_true _ _ within (ap (λ t. is_variable t.0) here ∙ le_true v 999999999 small),
    )

pub form_fails : (f : FormValue) (i v : ℕ) (a : ℤ) → slice_get f.terms i ≡ Some (v, a) → 999999999 < v → is_form f ≡ false
form_fails f i v a found large =
    let lt = slice_get_within f.terms i (v, a) found in
    let here : get_or f.terms i (v, a) ≡ (v, a) = get_or_from_slice_get f.terms i (v, a) (v, a) found in
    and_false_right _ _ (list_all_at (λ t. is_variable t.0) f.terms i (v, a) lt (ap (λ t. is_variable t.0) here ∙ le_false v 999999999 large))

-- the variables rise, so not many are within the limits
pub place_small : (f : FormValue) (i v : ℕ) (a : ℤ) → slice_get f.terms i ≡ Some (v, a) → IsTidy f.terms → (i < length f.terms) × (i ≤ v)
place_small f i v a found tidy =
    let lt = slice_get_within f.terms i (v, a) found in
    let here = get_or_from_slice_get f.terms i (v, a) (0, pos 0) found in
    let up = tidy_at f.terms 0 i tidy lt in
    let at = ap (λ (t : ℕ × ℤ). t.0) here in
    (lt, omega (arith, up, at))

pub form_done : (f : FormValue) (i : ℕ) → slice_get f.terms i ≡ None → IsTidy f.terms → FitsSigned w128 f.constant → fits_terms (take i f.terms) ≡ true → list_all (λ t. is_variable t.0) (take i f.terms) ≡ true → is_form f ≡ true
form_done f i none tidy range fits small =
    let all = take_all i f.terms (past (slice_get_cases f.terms i).1) in
    form_holds f tidy (both_true _ _ (ap fits_terms (sym all) ∙ fits) (fits_from f.constant range)) (ap (list_all (λ t. is_variable t.0)) (sym all) ∙ small)
  where
    past : ((x : ℕ × ℤ) × (i < length f.terms) × (slice_get f.terms i ≡ Some x) × (get_or f.terms i x ≡ x)) ⊎ ((length f.terms ≤ i) × (slice_get f.terms i ≡ None)) → length f.terms ≤ i
    past (inl p) = cc
    past (inr p) = p.0
