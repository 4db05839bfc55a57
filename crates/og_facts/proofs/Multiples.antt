-- The form of each inequality of a relation, made as a multiple of the form and a constant.
use Rattle.std.proofs.Common.{◌≡◌, ◌≢◌, ℕ, zero, suc, ◌+◌, ◌<◌, ◌^◌, ℤ, pos, negsuc, neg_ℤ, ◌+ℤ◌, ◌*ℤ◌, [], ◌∷◌, Bool, true, false, ◌&&◌, cond, Some, None, refl, sym, ap, ap₂, ◌∙◌, arith}
use Rattle.std.specs.Prelude.{option_map}
use Rattle.std.specs.Ordering.{int_eq}
use Rattle.std.proofs.lemmas.Int.{ints}
use Rattle.std.proofs.lemmas.Bool.{false_from_ne_true, ltb-true, lt-ltb, and_from}
use Rattle.std.proofs.lemmas.Bool.Decides.{Decides-int_eq}
use Rattle.og_linear.specs.Linear.{Terms, FormValue, form_value}
use Rattle.og_linear.specs.Tidy.{IsTidyFrom, IsTidy}
use Rattle.og_linear.specs.Arith.{with_term, scale_terms, scaled, plus, variable}
use Rattle.og_linear.specs.Bounded.{add_scaled, fits_i128, fits_terms, fits_form}
use Rattle.og_linear.specs.Answer.{checked}
use Rattle.og_facts.specs.Facts.{Atom, plus_one, negated, equal, apart, split, checked_facts}
use Rattle.og_facts.specs.Walk.{joined, part_and}
use Rattle.og_facts.proofs.Walked.{checked_append, split_checked}

-- ---- one sum

sum_checked : (c k : ℤ) (f r : FormValue) → plus (form_value [] c) (scaled k f) ≡ r → (fits_form r ≡ true → fits_form (scaled k f) ≡ true) → add_scaled (form_value [] c) k f ≡ checked r
sum_checked c k f r e h =
    ap (λ g. cond (fits_form (scaled k f) && fits_form g) (Some g) None) e
    ∙ go (fits_form (scaled k f)) (fits_form r) h
  where
    go : (b d : Bool) → (d ≡ true → b ≡ true) → cond (b && d) (Some r) None ≡ cond d (Some r) None
    go true d p = refl
    go false true p = ap (λ b. cond (b && true) (Some r) None) (p refl)
    go false false p = refl

kept_term : (x : ℕ) (c d : ℤ) (rest : Terms) → d ≢ pos 0 → c ≡ d → with_term x c rest ≡ (x, d) ∷ rest
kept_term x c d rest n e =
    ap (λ z. with_term x z rest) e
    ∙ ap (λ b. cond b rest ((x, d) ∷ rest)) (false_from_ne_true (int_eq d (pos 0)) (λ t. n ((Decides-int_eq d (pos 0)).0 t)))

same_terms : (low : ℕ) (ts : Terms) → IsTidyFrom low ts → scale_terms (pos 1) ts ≡ ts
same_terms low [] h = refl
same_terms low (t ∷ ts) h =
    let one : pos 1 *ℤ t.1 ≡ t.1 = omega (arith, ints) in
    kept_term t.0 (pos 1 *ℤ t.1) t.1 (scale_terms (pos 1) ts) h.1 one ∙ ap (λ l. t ∷ l) (same_terms (t.0 + 1) ts h.2)

pub same_sum : (f : FormValue) → IsTidy f.terms → add_scaled (form_value [] (pos 0)) (pos 1) f ≡ checked f
same_sum f tidy =
    let terms = same_terms 0 f.terms tidy in
    let constant : pos 0 +ℤ (pos 1 *ℤ f.constant) ≡ f.constant = omega (arith, ints) in
    let once : pos 1 *ℤ f.constant ≡ f.constant = omega (arith, ints) in
    let same : scaled (pos 1) f ≡ f = ap₂ form_value terms once in
    sum_checked (pos 0) (pos 1) f f (ap₂ form_value terms constant) (λ h. ap fits_form same ∙ h)

pub negated_sum : (f : FormValue) → add_scaled (form_value [] (pos 0)) (negsuc 0) f ≡ checked (negated f)
negated_sum f =
    let constant : pos 0 +ℤ (negsuc 0 *ℤ f.constant) ≡ negsuc 0 *ℤ f.constant = omega (arith, ints) in
    sum_checked (pos 0) (negsuc 0) f (negated f) (ap (form_value (scale_terms (negsuc 0) f.terms)) constant) (λ h. h)

pub next_sum : (f : FormValue) → IsTidy f.terms → fits_i128 f.constant ≡ true → add_scaled (form_value [] (pos 1)) (pos 1) f ≡ checked (plus_one f)
next_sum f tidy range =
    let terms = same_terms 0 f.terms tidy in
    let constant : pos 1 +ℤ (pos 1 *ℤ f.constant) ≡ f.constant +ℤ pos 1 = omega (arith, ints) in
    let once : pos 1 *ℤ f.constant ≡ f.constant = omega (arith, ints) in
    let same : scaled (pos 1) f ≡ f = ap₂ form_value terms once in
    sum_checked (pos 1) (pos 1) f (plus_one f) (ap₂ form_value terms constant)
    (λ h. ap fits_form same ∙ and_from (fits_terms f.terms) (fits_i128 f.constant) (left (fits_terms f.terms) _ h) range)
  where
    left : (a b : Bool) → (a && b) ≡ true → a ≡ true
    left true b e = refl
    left false b e = e

-- the negation fits where 1 more than it does
fits_before : (z : ℤ) → fits_i128 z ≡ true → fits_i128 (negsuc 0 *ℤ z +ℤ pos 1) ≡ true → fits_i128 (negsuc 0 *ℤ z) ≡ true
fits_before (pos zero) h k = let e : negsuc 0 *ℤ pos 0 ≡ pos 0 = omega (arith, ints) in ap fits_i128 e
fits_before (pos (suc n)) h k =
    let e : negsuc 0 *ℤ pos (suc n) ≡ negsuc n = omega (arith, ints) in
    let small : suc n < 2 ^ 127 = ltb-true (suc n) (2 ^ 127) h in
    let smaller : n < 2 ^ 127 = omega arith in
    ap fits_i128 e ∙ lt-ltb n (2 ^ 127) smaller
fits_before (negsuc n) h k =
    let e : negsuc 0 *ℤ negsuc n ≡ pos (suc n) = omega (arith, ints) in
    let d : negsuc 0 *ℤ negsuc n +ℤ pos 1 ≡ pos (suc (suc n)) = omega (arith, ints) in
    let small : suc (suc n) < 2 ^ 127 = ltb-true (suc (suc n)) (2 ^ 127) (sym (ap fits_i128 d) ∙ k) in
    let smaller : suc n < 2 ^ 127 = omega arith in
    ap fits_i128 e ∙ lt-ltb (suc n) (2 ^ 127) smaller

pub beyond_sum : (f : FormValue) → fits_i128 f.constant ≡ true → add_scaled (form_value [] (pos 1)) (negsuc 0) f ≡ checked (plus_one (negated f))
beyond_sum f range =
    let constant : pos 1 +ℤ (negsuc 0 *ℤ f.constant) ≡ negsuc 0 *ℤ f.constant +ℤ pos 1 = omega (arith, ints) in
    let terms = scale_terms (negsuc 0) f.terms in
    sum_checked (pos 1) (negsuc 0) f (plus_one (negated f)) (ap (form_value terms) constant) (λ h. go (fits_terms terms) h)
  where
    go : (b : Bool) → (b && fits_i128 (negsuc 0 *ℤ f.constant +ℤ pos 1)) ≡ true → (b && fits_i128 (negsuc 0 *ℤ f.constant)) ≡ true
    go true h = fits_before f.constant range h
    go false h = h

-- a variable less a value
pub difference_sum : (x : ℕ) (c v : ℤ) → c ≡ neg_ℤ v → add_scaled (form_value [] c) (pos 1) (variable x) ≡ checked (form_value ((x, pos 1) ∷ []) (neg_ℤ v))
difference_sum x c v e =
    let constant : c +ℤ pos 0 ≡ neg_ℤ v = omega (arith, ints, e) in
    sum_checked c (pos 1) (variable x) (form_value ((x, pos 1) ∷ []) (neg_ℤ v)) (ap (form_value ((x, pos 1) ∷ [])) constant) (λ h. refl)

-- ---- the facts of a relation

pub one_checked : (f : FormValue) → checked_facts (Atom f ∷ []) ≡ option_map (λ g. Atom g ∷ []) (checked f)
one_checked f = go (fits_form f)
  where
    go : (b : Bool) → cond (b && true) (Some (Atom f ∷ [])) None ≡ option_map (λ g. Atom g ∷ []) (cond b (Some f) None)
    go true = refl
    go false = refl

pub one_some : (f g : FormValue) → checked f ≡ Some g → checked_facts (Atom f ∷ []) ≡ Some (Atom g ∷ [])
one_some f g e = one_checked f ∙ ap (option_map (λ h. Atom h ∷ [])) e

pub one_none : (f : FormValue) → checked f ≡ None → checked_facts (Atom f ∷ []) ≡ None
one_none f e = one_checked f ∙ ap (option_map (λ h. Atom h ∷ [])) e

pub equal_checked : (f : FormValue) → checked_facts (equal f) ≡ joined (checked_facts (Atom f ∷ [])) (checked_facts (Atom (negated f) ∷ []))
equal_checked f = checked_append (Atom f ∷ []) (Atom (negated f) ∷ [])

pub apart_checked : (f : FormValue) → checked_facts (apart f) ≡ option_map split (part_and (checked_facts (Atom (plus_one f) ∷ [])) (part_and (checked_facts (Atom (plus_one (negated f)) ∷ [])) (Some [])))
apart_checked f = sym (split_checked ((Atom (plus_one f) ∷ []) ∷ (Atom (plus_one (negated f)) ∷ []) ∷ []))
