-- A term after all others.
use Rattle.std.proofs.Common.{◌≡◌, ◌≢◌, ℕ, zero, suc, ◌+◌, ◌-◌, ◌<◌, ℤ, pos, ◌+ℤ◌, ◌*ℤ◌, [], ◌∷◌, ◌++◌, length, Bool, true, false, ◌&&◌, cond, Some, None, slice_get, refl, sym, ap, ap₂, ◌∙◌, subst, arith, FitsSigned}
use Rattle.std.proofs.lemmas.Option.{none-some, same_Some, slice_get_within}
use mir.Syntax.{w128}
use Rattle.std.specs.Prelude.{nat_lt}
use Rattle.std.specs.List.{list_all}
use Rattle.std.specs.Ordering.{int_eq}
use Rattle.std.proofs.lemmas.Bool.{and_parts, both_ways, false_from_ne_true, cond-true, cond-false, lt-ltb, ltb-true}
use Rattle.std.proofs.lemmas.Bool.Decides.{Decides-int_eq}
use Rattle.std.proofs.lemmas.Int.{ints}
use Rattle.og_linear.specs.Linear.{Terms, FormValue, form_value}
use Rattle.og_linear.specs.Tidy.{IsTidyFrom, IsTidy}
use Rattle.og_linear.specs.Arith.{with_term, scale_terms, merge, scaled, plus, variable}
use Rattle.og_linear.specs.Bounded.{fits_i128, fits_terms, fits_form, add_scaled}
use Rattle.og_linear.proofs.Steps.{and_both, fits_true, fits_from, none_behind, merge-none, tidy_merge}

-- merged with one later term: that term at the end
pub merge_last : (ts : Terms) (v : ℕ) (k : ℤ) → list_all (λ t. nat_lt t.0 v) ts ≡ true → merge ts ((v, k) ∷ []) ≡ ts ++ (v, k) ∷ []
merge_last [] v k h = refl
merge_last (t ∷ ts) v k h =
    let both = and_parts (nat_lt t.0 v) (list_all (λ u. nat_lt u.0 v) ts) h in
    cond-true (nat_lt t.0 v) (t ∷ merge ts ((v, k) ∷ [])) _ both.0 ∙ ap (λ us. t ∷ us) (merge_last ts v k both.1)

-- k times a variable is one term
one_term : (v : ℕ) (k : ℤ) → k ≢ pos 0 → scale_terms k ((v, pos 1) ∷ []) ≡ (v, k) ∷ []
one_term v k n =
    let one : k *ℤ pos 1 ≡ k = omega (arith, ints) in
    ap (λ c. with_term v c []) one ∙ cond-false (int_eq k (pos 0)) [] ((v, k) ∷ []) (false_from_ne_true (int_eq k (pos 0)) (λ e. n ((Decides-int_eq k (pos 0)).0 e)))

fits_last : (ts : Terms) (v : ℕ) (k : ℤ) → fits_i128 k ≡ true → fits_terms ts ≡ true → fits_terms (ts ++ (v, k) ∷ []) ≡ true
fits_last [] v k e h = and_both (fits_i128 k) true e refl
fits_last (t ∷ ts) v k e h =
    let both = and_parts (fits_i128 t.1) (fits_terms ts) h in
    and_both (fits_i128 t.1) (fits_terms (ts ++ (v, k) ∷ [])) both.0 (fits_last ts v k e both.1)

-- added to a form whose variables all come before it
pub pushed : (f : FormValue) (v : ℕ) (k : ℤ) → k ≢ pos 0 → FitsSigned w128 k → fits_terms f.terms ≡ true → FitsSigned w128 f.constant → list_all (λ t. nat_lt t.0 v) f.terms ≡ true
    → add_scaled f k (variable v) ≡ Some (form_value (f.terms ++ (v, k) ∷ []) f.constant)
pushed f v k n fit fits const last =
    let zero_of : k *ℤ pos 0 ≡ pos 0 = omega (arith, ints) in
    let same : f.constant +ℤ pos 0 ≡ f.constant = omega (arith, ints) in
    let one = form_value ((v, k) ∷ []) (pos 0) in
    let all = form_value (f.terms ++ (v, k) ∷ []) f.constant in
    let own : scaled k (variable v) ≡ one = ap₂ form_value (one_term v k n) zero_of in
    let sum : plus f one ≡ all = ap₂ form_value (merge_last f.terms v k last) same in
    let k_fits = fits_true k fit in
    let one_fits : fits_form one ≡ true = and_both (fits_i128 k && true) (fits_i128 (pos 0)) (and_both (fits_i128 k) true k_fits refl) refl in
    let all_fits : fits_form all ≡ true = and_both (fits_terms (f.terms ++ (v, k) ∷ [])) (fits_i128 f.constant) (fits_last f.terms v k k_fits fits) (fits_true f.constant const) in
    ap (λ g. cond (fits_form g && fits_form (plus f g)) (Some (plus f g)) None) own
    ∙ ap (λ s. cond (fits_form one && fits_form s) (Some s) None) sum
    ∙ cond-true (fits_form one && fits_form all) (Some all) None (and_both (fits_form one) (fits_form all) one_fits all_fits)

pub tidy_pushed : (ts : Terms) (v : ℕ) (k : ℤ) → k ≢ pos 0 → list_all (λ t. nat_lt t.0 v) ts ≡ true → IsTidy ts × (fits_terms ts ≡ true) → FitsSigned w128 k
    → IsTidy (ts ++ (v, k) ∷ []) × (fits_terms (ts ++ (v, k) ∷ []) ≡ true)
tidy_pushed ts v k n last h fit =
    (subst IsTidy (merge_last ts v k last) (tidy_merge 0 ts ((v, k) ∷ []) h.0 (omega arith, n, tt)), fits_last ts v k (fits_true k fit) h.1)

-- ---- a term at the end, unless its coefficient is 0

merge_term : (ts : Terms) (v : ℕ) (d : ℤ) → list_all (λ t. nat_lt t.0 v) ts ≡ true → merge ts (with_term v d []) ≡ ts ++ with_term v d []
merge_term ts v d last = go (int_eq d (pos 0))
  where
    go : (b : Bool) → merge ts (cond b [] ((v, d) ∷ [])) ≡ ts ++ cond b [] ((v, d) ∷ [])
    go true = merge-none ts ∙ sym (none_behind ts)
    go false = merge_last ts v d last

fits_term : (ts : Terms) (v : ℕ) (d : ℤ) → fits_i128 d ≡ true → fits_terms ts ≡ true → fits_terms (ts ++ with_term v d []) ≡ true
fits_term ts v d e h = go (int_eq d (pos 0))
  where
    go : (b : Bool) → fits_terms (ts ++ cond b [] ((v, d) ∷ [])) ≡ true
    go true = subst (λ us. fits_terms us ≡ true) (sym (none_behind ts)) h
    go false = fits_last ts v d e h

pub tidy_with_term : (ts : Terms) (v : ℕ) (d : ℤ) → list_all (λ t. nat_lt t.0 v) ts ≡ true → IsTidy ts × (fits_terms ts ≡ true) → fits_i128 d ≡ true
    → IsTidy (ts ++ with_term v d []) × (fits_terms (ts ++ with_term v d []) ≡ true)
tidy_with_term ts v d last h e = go (int_eq d (pos 0)) refl
  where
    go : (b : Bool) → int_eq d (pos 0) ≡ b → IsTidy (ts ++ cond b [] ((v, d) ∷ [])) × (fits_terms (ts ++ cond b [] ((v, d) ∷ [])) ≡ true)
    go true k = subst (λ us. IsTidy us × (fits_terms us ≡ true)) (sym (none_behind ts)) h
    go false k = tidy_pushed ts v d (λ zero. both_ways (int_eq d (pos 0)) k ((Decides-int_eq d (pos 0)).1 zero)) last h (fits_from d e)

-- added to a form whose variables all come before its variable
pub pushed_term : (f : FormValue) (v : ℕ) (k c d : ℤ) → k *ℤ c ≡ d → fits_i128 d ≡ true → fits_terms f.terms ≡ true → FitsSigned w128 f.constant → list_all (λ t. nat_lt t.0 v) f.terms ≡ true
    → add_scaled f k (form_value ((v, c) ∷ []) (pos 0)) ≡ Some (form_value (f.terms ++ with_term v d []) f.constant)
pushed_term f v k c d is e fits const last =
    let zero_of : k *ℤ pos 0 ≡ pos 0 = omega (arith, ints) in
    let same : f.constant +ℤ pos 0 ≡ f.constant = omega (arith, ints) in
    let one = form_value (with_term v d []) (pos 0) in
    let all = form_value (f.terms ++ with_term v d []) f.constant in
    let own : scaled k (form_value ((v, c) ∷ []) (pos 0)) ≡ one = ap₂ form_value (ap (λ x. with_term v x []) is) zero_of in
    let sum : plus f one ≡ all = ap₂ form_value (merge_term f.terms v d last) same in
    let one_fits : fits_form one ≡ true = and_both (fits_terms (with_term v d [])) (fits_i128 (pos 0)) (fits_term [] v d e refl) refl in
    let all_fits : fits_form all ≡ true = and_both (fits_terms (f.terms ++ with_term v d [])) (fits_i128 f.constant) (fits_term f.terms v d e fits) (fits_true f.constant const) in
    ap (λ g. cond (fits_form g && fits_form (plus f g)) (Some (plus f g)) None) own
    ∙ ap (λ s. cond (fits_form one && fits_form s) (Some s) None) sum
    ∙ cond-true (fits_form one && fits_form all) (Some all) None (and_both (fits_form one) (fits_form all) one_fits all_fits)

fits_not : (v : ℕ) (d : ℤ) → fits_i128 d ≡ false → fits_terms (with_term v d []) ≡ false
fits_not v d e = go (int_eq d (pos 0)) refl
  where
    go : (b : Bool) → int_eq d (pos 0) ≡ b → fits_terms (cond b [] ((v, d) ∷ [])) ≡ false
    go true h = absurd (both_ways (fits_i128 d) e (ap fits_i128 ((Decides-int_eq d (pos 0)).0 h)))
    go false h = ap (λ b. b && true) e

pub pushed_none : (f : FormValue) (v : ℕ) (k c : ℤ) → fits_i128 (k *ℤ c) ≡ false → add_scaled f k (form_value ((v, c) ∷ []) (pos 0)) ≡ None
pushed_none f v k c e =
    let own = scaled k (form_value ((v, c) ∷ []) (pos 0)) in
    ap (λ b. cond ((b && fits_i128 (k *ℤ pos 0)) && fits_form (plus f own)) (Some (plus f own)) None) (fits_not v (k *ℤ c) e)

-- ---- the last term

later : (low : ℕ) (ts : Terms) (i : ℕ) (t : ℕ × ℤ) → IsTidyFrom low ts → slice_get ts i ≡ Some t → low < t.0 + 1
later low [] i t h e = absurd (none-some t e)
later low (x ∷ xs) zero t h e = subst (λ (u : ℕ × ℤ). low < u.0 + 1) (same_Some x t e) h.0
later low (x ∷ xs) (suc i) t h e = let rest = later (x.0 + 1) xs i t h.2 e in omega (arith, h.0, rest)

and_step : (a b : Bool) → (b ≡ true → a ≡ true) → (a && b) ≡ b
and_step true b f = refl
and_step false true f = f refl
and_step false false f = refl

and_true : (a : Bool) → (a && true) ≡ a
and_true true = refl
and_true false = refl

ends : (low : ℕ) (ts : Terms) (i v : ℕ) (t : ℕ × ℤ) → IsTidyFrom low ts → length ts ≡ i + 1 → slice_get ts i ≡ Some t → list_all (λ u. nat_lt u.0 v) ts ≡ nat_lt t.0 v
ends low [] i v t h n e = absurd (none-some t e)
ends low (x ∷ []) zero v t h n e = and_true (nat_lt x.0 v) ∙ ap (λ (u : ℕ × ℤ). nat_lt u.0 v) (same_Some x t e)
ends low (x ∷ y ∷ ys) zero v t h n e = absurd (omega (arith, n))
ends low (x ∷ xs) (suc i) v t h n e =
    let past = later (x.0 + 1) xs i t h.2 e in
    ap (λ b. nat_lt x.0 v && b) (ends (x.0 + 1) xs i v t h.2 (omega (arith, n)) e)
    ∙ and_step (nat_lt x.0 v) (nat_lt t.0 v) (λ less. lt-ltb x.0 v (omega (arith, past, ltb-true t.0 v less)))

-- a variable that comes after the last one comes after all
pub last_decides : (ts : Terms) (v : ℕ) (t : ℕ × ℤ) → IsTidy ts → slice_get ts (length ts - 1) ≡ Some t → nat_lt t.0 v ≡ list_all (λ u. nat_lt u.0 v) ts
last_decides ts v t h e =
    let within = slice_get_within ts (length ts - 1) t e in
    sym (ends 0 ts (length ts - 1) v t h (omega (arith, within)) e)
