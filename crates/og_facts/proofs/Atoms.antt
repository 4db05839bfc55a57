-- Terms that are lent, as they are or negated.
use Rattle.std.proofs.Common.{◌≡◌, ◌≢◌, ℕ, zero, suc, ◌+◌, ◌<◌, ◌≤◌, ◌^◌, ℤ, pos, negsuc, ◌*ℤ◌, [], ◌∷◌, ◌++◌, drop, take, map, Bool, true, false, ◌&&◌, cond, Some, None, refl, sym, ap, ◌∙◌, subst, arith, drop-cons, add-one, FitsSigned}
use mir.Syntax.{w128}
use Rattle.std.specs.Prelude.{slice_get, option_map}
use Rattle.std.specs.Ordering.{int_eq}
use Rattle.std.proofs.lemmas.Option.{slice_get_within, get_or_from_slice_get, slice_get-map, none-some, same_Some}
use Rattle.std.proofs.lemmas.Bool.{lt-ltb, ltb-true, and_parts, both_ways, cond_both, cond-false}
use Rattle.std.proofs.lemmas.Bool.Decides.{Decides-int_eq}
use Rattle.std.proofs.lemmas.Int.{ints}
use Rattle.og_linear.specs.Linear.{Terms, FormValue, form_value}
use Rattle.og_linear.specs.Tidy.{IsTidy, IsTidyFrom}
use Rattle.og_linear.specs.Arith.{with_term, scale_terms}
use Rattle.og_linear.specs.Bounded.{fits_i128, fits_terms, fits_form}
use Rattle.og_linear.specs.Answer.{checked, checked_int}
use Rattle.og_linear.proofs.Steps.{checked_some, fits_from}

-- ---- terms by their places

-- the variables rise, so a term's variable is no less than its place
rises : (ts : Terms) (low i : ℕ) (t : ℕ × ℤ) → IsTidyFrom low ts → slice_get ts i ≡ Some t → low + i ≤ t.0
rises [] low i t h e = absurd (cc)
rises (u ∷ ts) low zero t h e =
    let same : u ≡ t = cc in
    let first : low < u.0 + 1 = h.0 in
    subst (λ v. low + 0 ≤ v.0) same (omega arith)
rises (u ∷ ts) low (suc i) t h e =
    let rest = rises ts (u.0 + 1) i t h.2 e in
    let first : low < u.0 + 1 = h.0 in
    omega (arith, rest)

pub place_of_term : (ts : Terms) (i : ℕ) (t : ℕ × ℤ) → IsTidy ts → slice_get ts i ≡ Some t → i ≤ t.0
place_of_term ts i t h e = omega (arith, rises ts 0 i t h e)

pub at_term : (ts : Terms) (i : ℕ) (t : ℕ × ℤ) → slice_get ts i ≡ Some t → drop i ts ≡ t ∷ drop (i + 1) ts
at_term ts i t e =
    drop-cons ts i t (slice_get_within ts i t e)
    ∙ ap (λ y. y ∷ drop (suc i) ts) (get_or_from_slice_get ts i t t e)
    ∙ ap (λ k. t ∷ drop k ts) (sym (add-one i))

pub past : (ts : Terms) (i : ℕ) → slice_get ts i ≡ None → drop i ts ≡ []
past [] zero e = refl
past [] (suc i) e = refl
past (t ∷ ts) zero e = absurd (none-some t (sym e))
past (t ∷ ts) (suc i) e = past ts i e

-- ---- negations

-- the number whose negation does not fit
abbrev pub least : ℤ
least = negsuc 170141183460469231731687303715884105727

pub negative_fits : (z : ℤ) → fits_i128 z ≡ true → z ≢ least → fits_i128 (negsuc 0 *ℤ z) ≡ true
negative_fits (pos zero) h n = let e : negsuc 0 *ℤ pos 0 ≡ pos 0 = omega (arith, ints) in ap fits_i128 e
negative_fits (pos (suc m)) h n =
    let e : negsuc 0 *ℤ pos (suc m) ≡ negsuc m = omega (arith, ints) in
    let small : suc m < 2 ^ 127 = ltb-true (suc m) (2 ^ 127) h in
    let smaller : m < 2 ^ 127 = omega arith in
    ap fits_i128 e ∙ lt-ltb m (2 ^ 127) smaller
negative_fits (negsuc m) h n =
    let e : negsuc 0 *ℤ negsuc m ≡ pos (suc m) = omega (arith, ints) in
    let small : m < 2 ^ 127 = ltb-true m (2 ^ 127) h in
    let other : m ≢ 170141183460469231731687303715884105727 = λ same. n (ap negsuc same) in
    let smaller : suc m < 2 ^ 127 = omega (arith, other) in
    ap fits_i128 e ∙ lt-ltb (suc m) (2 ^ 127) smaller

pub negative_none : (z : ℤ) → z ≡ least → fits_i128 (negsuc 0 *ℤ z) ≡ false
negative_none z h =
    let e : negsuc 0 *ℤ least ≡ pos 170141183460469231731687303715884105728 = omega (arith, ints) in
    ap (λ x. fits_i128 (negsuc 0 *ℤ x)) h ∙ ap fits_i128 e

-- each term of the negation fits
abbrev pub has_negation : Terms → Bool
has_negation ts = fits_terms (scale_terms (negsuc 0) ts)

term_fits : (x : ℕ) (z : ℤ) (us : Terms) → fits_i128 z ≡ true → fits_terms (with_term x z us) ≡ fits_terms us
term_fits x z us h =
    cond_both (int_eq z (pos 0)) us ((x, z) ∷ us) (λ vs. fits_terms vs ≡ fits_terms us)
    (λ e. refl)
    (λ e. ap (λ b. b && fits_terms us) h)

term_fails : (x : ℕ) (z : ℤ) (us : Terms) → fits_i128 z ≡ false → fits_terms (with_term x z us) ≡ false
term_fails x z us h =
    cond_both (int_eq z (pos 0)) us ((x, z) ∷ us) (λ vs. fits_terms vs ≡ false)
    (λ e. absurd (both_ways (fits_i128 z) h (ap fits_i128 ((Decides-int_eq z (pos 0)).0 e))))
    (λ e. ap (λ b. b && fits_terms us) h)

pub negation_turn : (ts : Terms) (i : ℕ) (t : ℕ × ℤ) → slice_get ts i ≡ Some t → fits_i128 t.1 ≡ true → t.1 ≢ least → has_negation (drop (i + 1) ts) ≡ has_negation (drop i ts)
negation_turn ts i t e h n =
    sym (term_fits t.0 (negsuc 0 *ℤ t.1) (scale_terms (negsuc 0) (drop (i + 1) ts)) (negative_fits t.1 h n))
    ∙ ap has_negation (sym (at_term ts i t e))

pub negation_stops : (ts : Terms) (i : ℕ) (t : ℕ × ℤ) → slice_get ts i ≡ Some t → t.1 ≡ least → has_negation (drop i ts) ≡ false
negation_stops ts i t e h =
    ap has_negation (at_term ts i t e)
    ∙ term_fails t.0 (negsuc 0 *ℤ t.1) (scale_terms (negsuc 0) (drop (i + 1) ts)) (negative_none t.1 h)

pub negation_end : (ts : Terms) (i : ℕ) → slice_get ts i ≡ None → has_negation (drop i ts) ≡ true
negation_end ts i e = ap has_negation (past ts i e)

-- ---- a form of these terms and this constant

pub terms_of_form : (f : FormValue) → fits_form f ≡ true → fits_terms f.terms ≡ true
terms_of_form f h = (and_parts (fits_terms f.terms) (fits_i128 f.constant) h).0

pub made : (ts : Terms) (d z : ℤ) → fits_terms ts ≡ true → checked_int d ≡ Some z → checked (form_value ts d) ≡ Some (form_value ts z)
made ts d z h e =
    let p = checked_some d z e in
    go (fits_terms ts) (fits_i128 d) h p.0 ∙ ap (λ x. Some (form_value ts x)) p.1
  where
    go : (a b : Bool) → a ≡ true → b ≡ true → cond (a && b) (Some (form_value ts d)) None ≡ Some (form_value ts d)
    go true true p q = refl
    go true false p q = absurd (both_ways false refl q)
    go false b p q = absurd (both_ways false refl p)

pub unmade_terms : (ts : Terms) (d : ℤ) → fits_terms ts ≡ false → checked (form_value ts d) ≡ None
unmade_terms ts d h = ap (λ a. cond (a && fits_i128 d) (Some (form_value ts d)) None) h

pub unmade_number : (ts : Terms) (d : ℤ) → checked_int d ≡ None → checked (form_value ts d) ≡ None
unmade_number ts d e = go (fits_terms ts) (fits_i128 d) e
  where
    go : (a b : Bool) → cond b (Some d) None ≡ None → cond (a && b) (Some (form_value ts d)) None ≡ None
    go true true p = absurd (none-some d (sym p))
    go true false p = refl
    go false b p = refl

-- ---- the terms of the negation

nonzero : (x : ℤ) (b : Bool) → x ≢ pos 0 → int_eq (negsuc 0 *ℤ x) (pos 0) ≡ b → b ≡ false
nonzero x false n e = refl
nonzero x true n e =
    let zero_product : negsuc 0 *ℤ x ≡ pos 0 = (Decides-int_eq (negsuc 0 *ℤ x) (pos 0)).0 e in
    let is_zero : x ≡ pos 0 = omega (arith, ints, zero_product) in
    absurd (n is_zero)

abbrev pub negative_term : ℕ × ℤ → ℕ × ℤ
negative_term t = (t.0, negsuc 0 *ℤ t.1)

pub negated_terms : (low : ℕ) (ts : Terms) → IsTidyFrom low ts → scale_terms (negsuc 0) ts ≡ map negative_term ts
negated_terms low [] h = refl
negated_terms low (t ∷ ts) h =
    cond-false (int_eq (negsuc 0 *ℤ t.1) (pos 0)) _ _ (nonzero t.1 (int_eq (negsuc 0 *ℤ t.1) (pos 0)) h.1 refl)
    ∙ ap (λ us. negative_term t ∷ us) (negated_terms (t.0 + 1) ts h.2)

-- a term of the negation
pub negated_at : (ts : Terms) (i : ℕ) → IsTidy ts → slice_get (scale_terms (negsuc 0) ts) i ≡ option_map negative_term (slice_get ts i)
negated_at ts i h = ap (λ us. slice_get us i) (negated_terms 0 ts h) ∙ slice_get-map negative_term ts i

-- ---- terms taken one by one

pub taken_turn : (ts out new : Terms) (i : ℕ) (t : ℕ × ℤ) → slice_get ts i ≡ Some t → out ≡ take i ts → new ≡ out ++ t ∷ [] → new ≡ take (i + 1) ts
taken_turn ts out new i t e h n = n ∙ ap (λ us. us ++ t ∷ []) h ∙ go ts i e ∙ ap (λ k. take k ts) (sym (add-one i))
  where
    go : (us : Terms) (j : ℕ) → slice_get us j ≡ Some t → take j us ++ t ∷ [] ≡ take (suc j) us
    go [] j k = absurd (none-some t k)
    go (u ∷ us) zero k = ap (λ v. v ∷ []) (sym (same_Some u t k))
    go (u ∷ us) (suc j) k = ap (λ vs. u ∷ vs) (go us j k)

pub taken_end : (ts out : Terms) (i : ℕ) → slice_get ts i ≡ None → out ≡ take i ts → out ≡ ts
taken_end ts out i e h = h ∙ go ts i e
  where
    go : (us : Terms) (j : ℕ) → slice_get us j ≡ None → take j us ≡ us
    go [] zero k = refl
    go [] (suc j) k = refl
    go (u ∷ us) zero k = absurd (none-some u (sym k))
    go (u ∷ us) (suc j) k = ap (λ vs. u ∷ vs) (go us j k)

-- ---- the negation of a term fits

fits_at : (us : Terms) (i : ℕ) (u : ℕ × ℤ) → fits_terms us ≡ true → slice_get us i ≡ Some u → fits_i128 u.1 ≡ true
fits_at [] i u h e = absurd (none-some u e)
fits_at (t ∷ us) zero u h e = subst (λ (v : ℕ × ℤ). fits_i128 v.1 ≡ true) (same_Some t u e) (and_parts (fits_i128 t.1) (fits_terms us) h).0
fits_at (t ∷ us) (suc i) u h e = fits_at us i u (and_parts (fits_i128 t.1) (fits_terms us) h).1 e

pub negation_at : (ts : Terms) (i : ℕ) (t : ℕ × ℤ) → IsTidy ts → slice_get ts i ≡ Some t → slice_get (scale_terms (negsuc 0) ts) i ≡ Some (negative_term t)
negation_at ts i t h e = negated_at ts i h ∙ ap (option_map negative_term) e

pub negation_fits : (ts : Terms) (i : ℕ) (t : ℕ × ℤ) → IsTidy ts → fits_terms (scale_terms (negsuc 0) ts) ≡ true → slice_get ts i ≡ Some t → FitsSigned w128 (negsuc 0 *ℤ t.1)
negation_fits ts i t h fits e =
    fits_from (negsuc 0 *ℤ t.1) (fits_at (scale_terms (negsuc 0) ts) i (negative_term t) fits (negation_at ts i t h e))
