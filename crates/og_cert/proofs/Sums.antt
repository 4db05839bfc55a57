-- A sum that grows by one term after another.
use Rattle.std.proofs.Common.{◌≡◌, ◌≢◌, ℕ, zero, suc, ◌+◌, ◌<◌, ◌≤◌, ℤ, pos, ◌+ℤ◌, ◌*ℤ◌, [], ◌∷◌, ◌++◌, length, take, drop, set, Bool, true, false, ◌&&◌, cond, Option, Some, None, Result, Ok, Err, ◌⊎◌, inl, inr, refl, sym, ap, ap₂, ◌∙◌, subst, arith, add-one, ⊎_elim, FitsSigned}
use mir.Syntax.{w128}
use Rattle.std.specs.Prelude.{slice_get, OnErr, nat_lt, ◌==◌, ⊤}
use Rattle.std.specs.Ordering.{int_eq}
use Rattle.std.proofs.lemmas.Bool.{cond_both, cond-true, cond-false, lt-ltb, le-ltb, eqb-true, eq-eqb, and_parts, both_ways, false_from_ne_true}
use Rattle.std.proofs.lemmas.Bool.Decides.{Decides-int_eq}
use Rattle.std.proofs.lemmas.Int.{ints}
use Rattle.std.proofs.lemmas.Option.{none-some, same_Some, cond_some}
use Rattle.og_linear.specs.Linear.{Terms, FormValue, form_value}
use Rattle.og_linear.specs.Tidy.{IsTidyFrom, IsTidy}
use Rattle.og_linear.specs.Arith.{with_term, scale_terms, merge_in, merge, scaled, plus}
use Rattle.og_linear.specs.Bounded.{fits_i128, fits_terms, fits_form, add_scaled}
use Rattle.og_linear.specs.Replaced.{coefficient}
use Rattle.og_linear.specs.Answer.{checked_int, checked_terms, FailsAs, IsAnswer}
use Rattle.og_linear.specs.declared.fault.FormError.{FormError}
use Rattle.og_linear.specs.declared.fault.FormError.TheVariants as errors
use Rattle.og_linear.specs.declared.fault.FormFault.TheVariants as faults
use Rattle.og_linear.proofs.Steps.{and_both, fits_from, merge-none, tidy_scale, tidy_merge, checked_some}
use Rattle.og_linear.proofs.Pushed.{merge_last}
use Rattle.og_linear.proofs.Ring.{mul-add}
use Rattle.og_linear.proofs.Coefficients.{coefficient_past, coefficient-scale_terms, coefficient-merge, same_terms}
use Rattle.og_cert.specs.Sums.{AreTerms, added_terms, added_int}
use Rattle.og_cert.proofs.Terms.{below}

-- ---- one term in its place

parted : (p : ℕ) (ts : Terms) → take p ts ++ drop p ts ≡ ts
parted zero ts = refl
parted (suc p) [] = refl
parted (suc p) (t ∷ ts) = ap (λ us. t ∷ us) (parted p ts)

at_place : (ts : Terms) (p : ℕ) (t : ℕ × ℤ) → slice_get ts p ≡ Some t → drop p ts ≡ t ∷ drop (suc p) ts
at_place [] p t e = absurd (none-some t e)
at_place (u ∷ ts) zero t e = ap (λ v. v ∷ ts) (same_Some u t e)
at_place (u ∷ ts) (suc p) t e = at_place ts p t e

past_end : (ts : Terms) (p : ℕ) → slice_get ts p ≡ None → drop p ts ≡ []
past_end [] zero e = refl
past_end [] (suc p) e = refl
past_end (t ∷ ts) zero e = absurd (none-some t (sym e))
past_end (t ∷ ts) (suc p) e = past_end ts p e

merge_front : (front rest : Terms) (v : ℕ) (d : ℤ) → below v front ≡ true → merge (front ++ rest) ((v, d) ∷ []) ≡ front ++ merge rest ((v, d) ∷ [])
merge_front [] rest v d h = refl
merge_front (t ∷ front) rest v d h =
    let both = and_parts (nat_lt t.0 v) (below v front) h in
    cond-true (nat_lt t.0 v) (t ∷ merge (front ++ rest) ((v, d) ∷ [])) _ both.0 ∙ ap (λ us. t ∷ us) (merge_front front rest v d both.1)

merge_parted : (ts : Terms) (p v : ℕ) (d : ℤ) → below v (take p ts) ≡ true → merge ts ((v, d) ∷ []) ≡ take p ts ++ merge (drop p ts) ((v, d) ∷ [])
merge_parted ts p v d h = ap (λ us. merge us ((v, d) ∷ [])) (sym (parted p ts)) ∙ merge_front (take p ts) (drop p ts) v d h

-- in front of a term of the same variable
merge_same : (v : ℕ) (c d : ℤ) (ts : Terms) → merge ((v, c) ∷ ts) ((v, d) ∷ []) ≡ with_term v (c +ℤ d) ts
merge_same v c d ts =
    cond-false (nat_lt v v) _ _ (le-ltb v v (omega arith))
    ∙ cond-false (nat_lt v v) _ _ (le-ltb v v (omega arith))
    ∙ ap (λ us. with_term v (c +ℤ d) us) (merge-none ts)

-- in front of a term of a later variable
merge_later : (t : ℕ × ℤ) (ts : Terms) (v : ℕ) (d : ℤ) → v < t.0 → merge (t ∷ ts) ((v, d) ∷ []) ≡ (v, d) ∷ t ∷ ts
merge_later t ts v d h =
    let not_before : v ≤ t.0 = omega (arith, h) in
    cond-false (nat_lt t.0 v) _ _ (le-ltb t.0 v not_before)
    ∙ cond-true (nat_lt v t.0) ((v, d) ∷ merge_in t (merge ts) []) _ (lt-ltb v t.0 h)
    ∙ ap (λ us. (v, d) ∷ t ∷ us) (merge-none ts)

pub found_place : (ts : Terms) (p v : ℕ) (c d : ℤ) → below v (take p ts) ≡ true → slice_get ts p ≡ Some (v, c) → merge ts ((v, d) ∷ []) ≡ take p ts ++ with_term v (c +ℤ d) (drop (p + 1) ts)
found_place ts p v c d h e =
    merge_parted ts p v d h
    ∙ ap (λ us. take p ts ++ merge us ((v, d) ∷ [])) (at_place ts p (v, c) e)
    ∙ ap (λ us. take p ts ++ us) (merge_same v c d (drop (suc p) ts))
    ∙ ap (λ k. take p ts ++ with_term v (c +ℤ d) (drop k ts)) (sym (add-one p))

pub new_place : (ts : Terms) (p v : ℕ) (d : ℤ) → below v (take p ts) ≡ true → ((t : ℕ × ℤ) → slice_get ts p ≡ Some t → v ≤ t.0) → ((t : ℕ × ℤ) → slice_get ts p ≡ Some t → t.0 ≢ v) → merge ts ((v, d) ∷ []) ≡ take p ts ++ (v, d) ∷ drop p ts
new_place ts p v d h le ne = merge_parted ts p v d h ∙ ap (λ us. take p ts ++ us) (go (slice_get ts p) refl)
  where
    go : (o : Option (ℕ × ℤ)) → slice_get ts p ≡ o → merge (drop p ts) ((v, d) ∷ []) ≡ (v, d) ∷ drop p ts
    go None e = ap (λ us. merge us ((v, d) ∷ [])) (past_end ts p e) ∙ ap (λ us. (v, d) ∷ us) (sym (past_end ts p e))
    go (Some t) e =
        let at = at_place ts p t e in
        let later : v < t.0 = omega (arith, le t e, ne t e) in
        ap (λ us. merge us ((v, d) ∷ [])) at ∙ merge_later t (drop (suc p) ts) v d later ∙ ap (λ us. (v, d) ∷ us) (sym at)

pub set_at : (ts : Terms) (p : ℕ) (t : ℕ × ℤ) → p < length ts → set ts p t ≡ take p ts ++ t ∷ drop (p + 1) ts
set_at ts p t h = go ts p h ∙ ap (λ k. take p ts ++ t ∷ drop k ts) (sym (add-one p))
  where
    go : (us : Terms) (i : ℕ) → i < length us → set us i t ≡ take i us ++ t ∷ drop (suc i) us
    go [] i k = absurd (omega (arith, k))
    go (u ∷ us) zero k = refl
    go (u ∷ us) (suc i) k =
        let inside : i < length us = omega (arith, k) in
        ap (λ vs. u ∷ vs) (go us i inside)

-- a term that is not 0
pub term_alone : (v : ℕ) (d : ℤ) (rest : Terms) → d ≢ pos 0 → with_term v d rest ≡ (v, d) ∷ rest
term_alone v d rest n =
    cond-false (int_eq d (pos 0)) rest ((v, d) ∷ rest) (false_from_ne_true (int_eq d (pos 0)) (λ e. n ((Decides-int_eq d (pos 0)).0 e)))

pub term_gone : (v : ℕ) (d : ℤ) (rest : Terms) → d ≡ pos 0 → with_term v d rest ≡ rest
term_gone v d rest e = cond-true (int_eq d (pos 0)) rest ((v, d) ∷ rest) ((Decides-int_eq d (pos 0)).1 e)

-- ---- what fits

fits_put : (front rest : Terms) (v : ℕ) (c : ℤ) → fits_terms front ≡ true → fits_i128 c ≡ true → fits_terms rest ≡ true → fits_terms (front ++ with_term v c rest) ≡ true
fits_put [] rest v c h k l =
    cond_both (int_eq c (pos 0)) rest ((v, c) ∷ rest) (λ us. fits_terms us ≡ true) (λ e. l) (λ e. and_both (fits_i128 c) (fits_terms rest) k l)
fits_put (t ∷ front) rest v c h k l =
    let both = and_parts (fits_i128 t.1) (fits_terms front) h in
    and_both (fits_i128 t.1) (fits_terms (front ++ with_term v c rest)) both.0 (fits_put front rest v c both.1 k l)

fits_take : (ts : Terms) (p : ℕ) → fits_terms ts ≡ true → fits_terms (take p ts) ≡ true
fits_take ts zero h = refl
fits_take [] (suc p) h = refl
fits_take (t ∷ ts) (suc p) h =
    let both = and_parts (fits_i128 t.1) (fits_terms ts) h in
    and_both (fits_i128 t.1) (fits_terms (take p ts)) both.0 (fits_take ts p both.1)

fits_drop : (ts : Terms) (p : ℕ) → fits_terms ts ≡ true → fits_terms (drop p ts) ≡ true
fits_drop ts zero h = h
fits_drop [] (suc p) h = refl
fits_drop (t ∷ ts) (suc p) h = fits_drop ts p (and_parts (fits_i128 t.1) (fits_terms ts) h).1

pub term_fits : (ts : Terms) (p : ℕ) (t : ℕ × ℤ) → fits_terms ts ≡ true → slice_get ts p ≡ Some t → FitsSigned w128 t.1
term_fits [] p t h e = absurd (none-some t e)
term_fits (u ∷ ts) zero t h e =
    let same : u ≡ t = same_Some u t e in
    fits_from t.1 (ap (λ (w : ℕ × ℤ). fits_i128 w.1) (sym same) ∙ (and_parts (fits_i128 u.1) (fits_terms ts) h).0)
term_fits (u ∷ ts) (suc p) t h e = term_fits ts p t (and_parts (fits_i128 u.1) (fits_terms ts) h).1 e

unfit_put : (front rest : Terms) (v : ℕ) (c : ℤ) → fits_i128 c ≡ false → fits_terms (front ++ with_term v c rest) ≡ false
unfit_put [] rest v c k =
    cond_both (int_eq c (pos 0)) rest ((v, c) ∷ rest) (λ us. fits_terms us ≡ false)
    (λ e. absurd (both_ways (fits_i128 c) k (ap fits_i128 ((Decides-int_eq c (pos 0)).0 e))))
    (λ e. ap (λ b. b && fits_terms rest) k)
unfit_put (t ∷ front) rest v c k = ap (λ b. fits_i128 t.1 && b) (unfit_put front rest v c k) ∙ and_false (fits_i128 t.1)
  where
    and_false : (b : Bool) → (b && false) ≡ false
    and_false true = refl
    and_false false = refl

pub checked_fits : (ts : Terms) → fits_terms ts ≡ true → checked_terms ts ≡ Some ts
checked_fits ts h = cond-true (fits_terms ts) (Some ts) None h

checked_unfit : (ts : Terms) → fits_terms ts ≡ false → checked_terms ts ≡ None
checked_unfit ts h = cond-false (fits_terms ts) (Some ts) None h

unfit_checked : (ts : Terms) → checked_terms ts ≡ None → fits_terms ts ≡ false
unfit_checked ts e = go (fits_terms ts) e
  where
    go : (b : Bool) → cond b (Some ts) None ≡ None → b ≡ false
    go true k = absurd (none-some ts (sym k))
    go false k = refl

pub int_unfit : (z : ℤ) → checked_int z ≡ None → fits_i128 z ≡ false
int_unfit z e = go (fits_i128 z) e
  where
    go : (b : Bool) → cond b (Some z) None ≡ None → b ≡ false
    go true k = absurd (none-some z (sym k))
    go false k = refl

pub some_range : (z s : ℤ) → checked_int z ≡ Some s → FitsSigned w128 s
some_range z s e =
    let p = checked_some z s e in
    fits_from s (ap fits_i128 (sym p.1) ∙ p.0)

-- ---- the terms after one is added

-- the same variable, where the sum fits
pub found_fits : (ts new : Terms) (p v : ℕ) (c d s : ℤ) → AreTerms ts → d ≢ pos 0 → below v (take p ts) ≡ true → slice_get ts p ≡ Some (v, c) → checked_int (c +ℤ d) ≡ Some s → new ≡ take p ts ++ with_term v s (drop (p + 1) ts) → checked_terms (merge ts (with_term v d [])) ≡ Some new
found_fits ts new p v c d s h n b e f is =
    let fit = checked_some (c +ℤ d) s f in
    let same : merge ts (with_term v d []) ≡ take p ts ++ with_term v (c +ℤ d) (drop (p + 1) ts) =
    ap (merge ts) (term_alone v d [] n) ∙ found_place ts p v c d b e
    in
    ap checked_terms same
    ∙ checked_fits (take p ts ++ with_term v (c +ℤ d) (drop (p + 1) ts)) (fits_put (take p ts) (drop (p + 1) ts) v (c +ℤ d) (fits_take ts p h.1) fit.0 (fits_drop ts (p + 1) h.1))
    ∙ ap (λ z. Some (take p ts ++ with_term v z (drop (p + 1) ts))) fit.1
    ∙ ap Some (sym is)

-- the same variable, where the sum does not fit
pub found_unfit : (ts : Terms) (p v : ℕ) (c d : ℤ) → d ≢ pos 0 → below v (take p ts) ≡ true → slice_get ts p ≡ Some (v, c) → checked_int (c +ℤ d) ≡ None → checked_terms (merge ts (with_term v d [])) ≡ None
found_unfit ts p v c d n b e f =
    ap checked_terms (ap (merge ts) (term_alone v d [] n) ∙ found_place ts p v c d b e)
    ∙ checked_unfit (take p ts ++ with_term v (c +ℤ d) (drop (p + 1) ts)) (unfit_put (take p ts) (drop (p + 1) ts) v (c +ℤ d) (int_unfit (c +ℤ d) f))

-- a new variable
pub new_fits : (ts new : Terms) (p v : ℕ) (d : ℤ) → AreTerms ts → d ≢ pos 0 → fits_i128 d ≡ true → below v (take p ts) ≡ true → ((t : ℕ × ℤ) → slice_get ts p ≡ Some t → v ≤ t.0) → ((t : ℕ × ℤ) → slice_get ts p ≡ Some t → t.0 ≢ v) → new ≡ take p ts ++ (v, d) ∷ drop p ts → checked_terms (merge ts (with_term v d [])) ≡ Some new
new_fits ts new p v d h n fit b le ne is =
    let same : merge ts (with_term v d []) ≡ take p ts ++ with_term v d (drop p ts) =
    ap (merge ts) (term_alone v d [] n) ∙ new_place ts p v d b le ne ∙ ap (λ us. take p ts ++ us) (sym (term_alone v d (drop p ts) n))
    in
    ap checked_terms same
    ∙ checked_fits (take p ts ++ with_term v d (drop p ts)) (fits_put (take p ts) (drop p ts) v d (fits_take ts p h.1) fit (fits_drop ts p h.1))
    ∙ ap (λ us. Some (take p ts ++ us)) (term_alone v d (drop p ts) n)
    ∙ ap Some (sym is)

-- a variable after all others
pub last_fits : (ts new : Terms) (v : ℕ) (d : ℤ) → AreTerms ts → d ≢ pos 0 → fits_i128 d ≡ true → below v ts ≡ true → new ≡ ts ++ (v, d) ∷ [] → checked_terms (merge ts (with_term v d [])) ≡ Some new
last_fits ts new v d h n fit b is =
    let same : merge ts (with_term v d []) ≡ ts ++ with_term v d [] =
    ap (merge ts) (term_alone v d [] n) ∙ merge_last ts v d b ∙ ap (λ us. ts ++ us) (sym (term_alone v d [] n))
    in
    ap checked_terms same
    ∙ checked_fits (ts ++ with_term v d []) (fits_put ts [] v d h.1 fit refl)
    ∙ ap (λ us. Some (ts ++ us)) (term_alone v d [] n)
    ∙ ap Some (sym is)

-- nothing
pub none_fits : (ts : Terms) (v : ℕ) (d : ℤ) → AreTerms ts → d ≡ pos 0 → checked_terms (merge ts (with_term v d [])) ≡ Some ts
none_fits ts v d h e = ap (λ us. checked_terms (merge ts us)) (term_gone v d [] e) ∙ ap checked_terms (merge-none ts) ∙ checked_fits ts h.1

-- ---- the loop over the places

pub before_turn : (ts : Terms) (i v : ℕ) (t : ℕ × ℤ) → slice_get ts i ≡ Some t → t.0 < v → below v (take i ts) ≡ true → below v (take (i + 1) ts) ≡ true
before_turn ts i v t e lt h = ap (λ k. below v (take k ts)) (add-one i) ∙ go ts i e h
  where
    go : (us : Terms) (j : ℕ) → slice_get us j ≡ Some t → below v (take j us) ≡ true → below v (take (suc j) us) ≡ true
    go [] j k b = absurd (none-some t k)
    go (u ∷ us) zero k b =
        let same : u ≡ t = same_Some u t k in
        and_both (nat_lt u.0 v) true (ap (λ (w : ℕ × ℤ). nat_lt w.0 v) same ∙ lt-ltb t.0 v lt) refl
    go (u ∷ us) (suc j) k b =
        let both = and_parts (nat_lt u.0 v) (below v (take j us)) b in
        and_both (nat_lt u.0 v) (below v (take (suc j) us)) both.0 (go us j k both.1)

-- ---- the loop over the terms that are added

tidy_take : (low : ℕ) (ts : Terms) (i : ℕ) → IsTidyFrom low ts → IsTidyFrom low (take i ts)
tidy_take low ts zero h = tt
tidy_take low [] (suc i) h = tt
tidy_take low (t ∷ ts) (suc i) h = (h.0, h.1, tidy_take (t.0 + 1) ts i h.2)

-- a term comes after those before it, and is not 0
term_after : (low : ℕ) (ts : Terms) (i : ℕ) (t : ℕ × ℤ) → IsTidyFrom low ts → slice_get ts i ≡ Some t → (low < t.0 + 1) × (t.1 ≢ pos 0) × (below t.0 (take i ts) ≡ true)
term_after low [] i t h e = absurd (none-some t e)
term_after low (u ∷ ts) zero t h e = subst (λ (w : ℕ × ℤ). (low < w.0 + 1) × (w.1 ≢ pos 0) × (below w.0 [] ≡ true)) (same_Some u t e) (h.0, h.1, refl)
term_after low (u ∷ ts) (suc i) t h e =
    let rest = term_after (u.0 + 1) ts i t h.2 e in
    let less : u.0 < t.0 = omega (arith, rest.0) in
    (omega (arith, h.0, rest.0), rest.1, and_both (nat_lt u.0 t.0) (below t.0 (take i ts)) (lt-ltb u.0 t.0 less) rest.2)

take_more : (ts : Terms) (i : ℕ) (t : ℕ × ℤ) → slice_get ts i ≡ Some t → take (i + 1) ts ≡ take i ts ++ t ∷ []
take_more ts i t e = ap (λ k. take k ts) (add-one i) ∙ go ts i e
  where
    go : (us : Terms) (j : ℕ) → slice_get us j ≡ Some t → take (suc j) us ≡ take j us ++ t ∷ []
    go [] j k = absurd (none-some t k)
    go (u ∷ us) zero k = ap (λ v. v ∷ []) (same_Some u t k)
    go (u ∷ us) (suc j) k = ap (λ vs. u ∷ vs) (go us j k)

take_all : (ts : Terms) (i : ℕ) → slice_get ts i ≡ None → take i ts ≡ ts
take_all [] zero e = refl
take_all [] (suc i) e = refl
take_all (t ∷ ts) zero e = absurd (none-some t (sym e))
take_all (t ∷ ts) (suc i) e = ap (λ us. t ∷ us) (take_all ts i e)

term_before : (v : ℕ) (c : ℤ) (rest more : Terms) → with_term v c (rest ++ more) ≡ with_term v c rest ++ more
term_before v c rest more = go (int_eq c (pos 0))
  where
    go : (b : Bool) → cond b (rest ++ more) ((v, c) ∷ rest ++ more) ≡ cond b rest ((v, c) ∷ rest) ++ more
    go true = refl
    go false = refl

scale_append : (k : ℤ) (xs ys : Terms) → scale_terms k (xs ++ ys) ≡ scale_terms k xs ++ scale_terms k ys
scale_append k [] ys = refl
scale_append k (x ∷ xs) ys =
    ap (λ us. with_term x.0 (k *ℤ x.1) us) (scale_append k xs ys) ∙ term_before x.0 (k *ℤ x.1) (scale_terms k xs) (scale_terms k ys)

merge_assoc : (a b c : Terms) → IsTidy a → IsTidy b → IsTidy c → merge (merge a b) c ≡ merge a (merge b c)
merge_assoc a b c ha hb hc =
    same_terms (merge (merge a b) c) (merge a (merge b c)) 0 0 (tidy_merge 0 (merge a b) c (tidy_merge 0 a b ha hb) hc) (tidy_merge 0 a (merge b c) ha (tidy_merge 0 b c hb hc))
    (λ x.
    let p = coefficient x a in
    let q = coefficient x b in
    let r = coefficient x c in
    let turned : (p +ℤ q) +ℤ r ≡ p +ℤ (q +ℤ r) = omega (arith, ints) in
    coefficient-merge (merge a b) c 0 x (tidy_merge 0 a b ha hb) hc
    ∙ ap (λ z. z +ℤ r) (coefficient-merge a b 0 x ha hb)
    ∙ turned
    ∙ ap (λ z. p +ℤ z) (sym (coefficient-merge b c 0 x hb hc))
    ∙ sym (coefficient-merge a (merge b c) 0 x ha (tidy_merge 0 b c hb hc)))

scale_merge : (k : ℤ) (a b : Terms) → IsTidy a → IsTidy b → scale_terms k (merge a b) ≡ merge (scale_terms k a) (scale_terms k b)
scale_merge k a b ha hb =
    let sa = tidy_scale k 0 a ha in
    let sb = tidy_scale k 0 b hb in
    same_terms (scale_terms k (merge a b)) (merge (scale_terms k a) (scale_terms k b)) 0 0 (tidy_scale k 0 (merge a b) (tidy_merge 0 a b ha hb)) (tidy_merge 0 (scale_terms k a) (scale_terms k b) sa sb)
    (λ x.
    coefficient-scale_terms k (merge a b) 0 x (tidy_merge 0 a b ha hb)
    ∙ ap (λ z. k *ℤ z) (coefficient-merge a b 0 x ha hb)
    ∙ mul-add k (coefficient x a) (coefficient x b)
    ∙ ap₂ ◌+ℤ◌ (sym (coefficient-scale_terms k a 0 x ha)) (sym (coefficient-scale_terms k b 0 x hb))
    ∙ sym (coefficient-merge (scale_terms k a) (scale_terms k b) 0 x sa sb))

tidy_one : (t : ℕ × ℤ) → t.1 ≢ pos 0 → IsTidy (t ∷ [])
tidy_one t n = (omega arith, n, tt)

-- one term more of those that are added
scale_next : (k : ℤ) (us : Terms) (i : ℕ) (t : ℕ × ℤ) → IsTidy us → slice_get us i ≡ Some t → scale_terms k (take (i + 1) us) ≡ merge (scale_terms k (take i us)) (with_term t.0 (k *ℤ t.1) [])
scale_next k us i t h e =
    let after = term_after 0 us i t h e in
    ap (scale_terms k) (take_more us i t e ∙ sym (merge_last (take i us) t.0 t.1 after.2))
    ∙ scale_merge k (take i us) (t ∷ []) (tidy_take 0 us i h) (tidy_one t after.1)

next_sum : (ts us : Terms) (k : ℤ) (i : ℕ) (t : ℕ × ℤ) → IsTidy ts → IsTidy us → slice_get us i ≡ Some t → merge (merge ts (scale_terms k (take i us))) (with_term t.0 (k *ℤ t.1) []) ≡ merge ts (scale_terms k (take (i + 1) us))
next_sum ts us k i t hts hus e =
    let after = term_after 0 us i t hus e in
    merge_assoc ts (scale_terms k (take i us)) (with_term t.0 (k *ℤ t.1) []) hts (tidy_scale k 0 (take i us) (tidy_take 0 us i hus)) (tidy_scale k 0 (t ∷ []) (tidy_one t after.1))
    ∙ ap (merge ts) (sym (scale_next k us i t hus e))

next_products : (us : Terms) (k : ℤ) (i : ℕ) (t : ℕ × ℤ) → slice_get us i ≡ Some t → fits_i128 (k *ℤ t.1) ≡ true → fits_terms (scale_terms k (take i us)) ≡ true → fits_terms (scale_terms k (take (i + 1) us)) ≡ true
next_products us k i t e fit h =
    ap fits_terms (ap (scale_terms k) (take_more us i t e) ∙ scale_append k (take i us) (t ∷ []))
    ∙ fits_put (scale_terms k (take i us)) [] t.0 (k *ℤ t.1) h fit refl

-- ---- one term

tidy_single : (v : ℕ) (z : ℤ) → IsTidy (with_term v z [])
tidy_single v z =
    cond_both (int_eq z (pos 0)) [] ((v, z) ∷ []) IsTidy (λ e. tt)
    (λ e. (omega arith, λ zero. both_ways (int_eq z (pos 0)) e ((Decides-int_eq z (pos 0)).1 zero), tt))

fits_single : (v : ℕ) (z : ℤ) → fits_i128 z ≡ true → fits_terms (with_term v z []) ≡ true
fits_single v z e = fits_put [] [] v z refl e refl

single_fits : (v : ℕ) (z : ℤ) → fits_terms (with_term v z []) ≡ true → fits_i128 z ≡ true
single_fits v z h = go (fits_i128 z) refl
  where
    go : (b : Bool) → fits_i128 z ≡ b → fits_i128 z ≡ true
    go true e = e
    go false e = absurd (both_ways (fits_terms (with_term v z [])) (unfit_put [] [] v z e) h)

none_added : (ts us : Terms) (k : ℤ) (a b : Bool) → (a && b) ≡ false → cond (a && b) (Some (merge ts (scale_terms k us))) None ≡ None
none_added ts us k a b e = cond-false (a && b) (Some (merge ts (scale_terms k us))) None e

and_left : (a b : Bool) → a ≡ false → (a && b) ≡ false
and_left true b e = absurd (both_ways true e refl)
and_left false b e = refl

and_right : (a b : Bool) → b ≡ false → (a && b) ≡ false
and_right true b e = e
and_right false b e = refl

-- a product that does not fit
pub single_stops : (ts : Terms) (k : ℤ) (v : ℕ) (c : ℤ) → checked_int (k *ℤ c) ≡ None → added_terms ts k ((v, c) ∷ []) ≡ None
single_stops ts k v c e =
    let us = with_term v (k *ℤ c) [] in
    none_added ts ((v, c) ∷ []) k (fits_terms us) (fits_terms (merge ts us)) (and_left (fits_terms us) (fits_terms (merge ts us)) (unfit_put [] [] v (k *ℤ c) (int_unfit (k *ℤ c) e)))

-- a product that fits
pub single_added : (ts : Terms) (k : ℤ) (v : ℕ) (c d : ℤ) → checked_int (k *ℤ c) ≡ Some d → checked_terms (merge ts (with_term v d [])) ≡ added_terms ts k ((v, c) ∷ [])
single_added ts k v c d e =
    let p = checked_some (k *ℤ c) d e in
    let sum = merge ts (with_term v (k *ℤ c) []) in
    ap (λ z. checked_terms (merge ts (with_term v z []))) (sym p.1) ∙ ap (λ b. cond (b && fits_terms sum) (Some sum) None) (sym (fits_single v (k *ℤ c) p.0))

pub terms_after : (ts new : Terms) (v : ℕ) (d : ℤ) (r : Result (Unit {0}) FormError) → AreTerms ts → IsAnswer (λ _. new) faults.TooLarge r (checked_terms (merge ts (with_term v d []))) → OnErr r (new ≡ ts) → AreTerms new
terms_after ts new v d (Ok u) h a k =
    let sum = merge ts (with_term v d []) in
    let p = cond_some (fits_terms sum) sum new a in
    (subst IsTidy p.1 (tidy_merge 0 ts (with_term v d []) h.0 (tidy_single v d)), subst (λ vs. fits_terms vs ≡ true) p.1 p.0)
terms_after ts new v d (Err e) h a k = subst AreTerms (sym k) h

-- ---- faults

product_unfit : (us : Terms) (k : ℤ) (i : ℕ) (t : ℕ × ℤ) → slice_get us i ≡ Some t → fits_i128 (k *ℤ t.1) ≡ false → fits_terms (scale_terms k us) ≡ false
product_unfit us k i t e f =
    ap (λ vs. fits_terms (scale_terms k vs)) (sym (parted i us) ∙ ap (λ vs. take i us ++ vs) (at_place us i t e))
    ∙ ap fits_terms (scale_append k (take i us) (t ∷ drop (suc i) us))
    ∙ unfit_put (scale_terms k (take i us)) (scale_terms k (drop (suc i) us)) t.0 (k *ℤ t.1) f

fits_at : (ts : Terms) (x : ℕ) → fits_terms ts ≡ true → fits_i128 (coefficient x ts) ≡ true
fits_at [] x h = refl
fits_at (t ∷ ts) x h =
    let both = and_parts (fits_i128 t.1) (fits_terms ts) h in
    cond_both (x == t.0) t.1 (coefficient x ts) (λ c. fits_i128 c ≡ true) (λ e. both.0) (λ e. fits_at ts x both.1)

at_front : (t : ℕ × ℤ) (ts : Terms) → coefficient t.0 (t ∷ ts) ≡ t.1
at_front t ts = cond-true (t.0 == t.0) _ _ (eq-eqb t.0 t.0 refl)

fits_each : (ts : Terms) (low : ℕ) → IsTidyFrom low ts → ((x : ℕ) → fits_i128 (coefficient x ts) ≡ true) → fits_terms ts ≡ true
fits_each [] low h f = refl
fits_each (t ∷ ts) low h f =
    and_both (fits_i128 t.1) (fits_terms ts) (ap fits_i128 (sym (at_front t ts)) ∙ f t.0) (fits_each ts (t.0 + 1) h.2 (λ x. go x (x == t.0) refl))
  where
    go : (x : ℕ) (b : Bool) → (x == t.0) ≡ b → fits_i128 (coefficient x ts) ≡ true
    go x true e = ap fits_i128 (coefficient_past ts (t.0 + 1) x h.2 (omega (arith, eqb-true x t.0 e)))
    go x false e = ap fits_i128 (sym (cond-false (x == t.0) t.1 (coefficient x ts) e)) ∙ f x

-- among the first terms a variable has its coefficient, or none
coefficient_take : (ts : Terms) (i x : ℕ) → (coefficient x (take i ts) ≡ coefficient x ts) ⊎ (coefficient x (take i ts) ≡ pos 0)
coefficient_take ts zero x = inr refl
coefficient_take [] (suc i) x = inl refl
coefficient_take (t ∷ ts) (suc i) x = go (x == t.0) (coefficient_take ts i x)
  where
    go : (b : Bool) → (coefficient x (take i ts) ≡ coefficient x ts) ⊎ (coefficient x (take i ts) ≡ pos 0)
        → (cond b t.1 (coefficient x (take i ts)) ≡ cond b t.1 (coefficient x ts)) ⊎ (cond b t.1 (coefficient x (take i ts)) ≡ pos 0)
    go true rest = inl refl
    go false rest = rest

-- where the whole sum fits, so does that with the first terms
part_fits : (ts us : Terms) (k : ℤ) (i : ℕ) → AreTerms ts → IsTidy us → fits_terms (merge ts (scale_terms k us)) ≡ true → fits_terms (merge ts (scale_terms k (take i us))) ≡ true
part_fits ts us k i hts hus all =
    let first = tidy_take 0 us i hus in
    fits_each (merge ts (scale_terms k (take i us))) 0 (tidy_merge 0 ts (scale_terms k (take i us)) hts.0 (tidy_scale k 0 (take i us) first))
    (λ x.
    ap fits_i128 (total (take i us) first x)
    ∙ ⊎_elim
    (λ same. ap (λ c. fits_i128 (coefficient x ts +ℤ k *ℤ c)) same ∙ ap fits_i128 (sym (total us hus x)) ∙ fits_at (merge ts (scale_terms k us)) x all)
    (λ none. ap (λ c. fits_i128 (coefficient x ts +ℤ k *ℤ c)) none ∙ ap fits_i128 (nothing x) ∙ fits_at ts x hts.1)
    (coefficient_take us i x))
  where
    total : (vs : Terms) → IsTidy vs → (x : ℕ) → coefficient x (merge ts (scale_terms k vs)) ≡ coefficient x ts +ℤ k *ℤ coefficient x vs
    total vs h x =
        coefficient-merge ts (scale_terms k vs) 0 x hts.0 (tidy_scale k 0 vs h) ∙ ap (λ c. coefficient x ts +ℤ c) (coefficient-scale_terms k vs 0 x h)

    nothing : (x : ℕ) → coefficient x ts +ℤ k *ℤ pos 0 ≡ coefficient x ts
    nothing x = omega (arith, ints)

sum_unfit : (ts us : Terms) (k : ℤ) (i : ℕ) → AreTerms ts → IsTidy us → fits_terms (merge ts (scale_terms k (take i us))) ≡ false → fits_terms (merge ts (scale_terms k us)) ≡ false
sum_unfit ts us k i hts hus f =
    false_from_ne_true (fits_terms (merge ts (scale_terms k us))) (λ e. both_ways (fits_terms (merge ts (scale_terms k (take i us)))) f (part_fits ts us k i hts hus e))

-- one term more that does not fit
pub next_stops : (ts us old : Terms) (k : ℤ) (i : ℕ) (t : ℕ × ℤ) → AreTerms ts → IsTidy us → slice_get us i ≡ Some t → old ≡ merge ts (scale_terms k (take i us)) → added_terms old k (t ∷ []) ≡ None → added_terms ts k us ≡ None
next_stops ts us old k i t hts hus e is none = none_added ts us k (fits_terms (scale_terms k us)) (fits_terms (merge ts (scale_terms k us))) (go (fits_i128 (k *ℤ t.1)) refl)
  where
    go : (b : Bool) → fits_i128 (k *ℤ t.1) ≡ b → (fits_terms (scale_terms k us) && fits_terms (merge ts (scale_terms k us))) ≡ false
    go false f = and_left (fits_terms (scale_terms k us)) (fits_terms (merge ts (scale_terms k us))) (product_unfit us k i t e f)
    go true f =
        let sum = merge old (with_term t.0 (k *ℤ t.1) []) in
        let product : checked_int (k *ℤ t.1) ≡ Some (k *ℤ t.1) = cond-true (fits_i128 (k *ℤ t.1)) (Some (k *ℤ t.1)) None f in
        let part : fits_terms (merge ts (scale_terms k (take (i + 1) us))) ≡ false =
        ap fits_terms (sym (next_sum ts us k i t hts.0 hus e) ∙ ap (λ vs. merge vs (with_term t.0 (k *ℤ t.1) [])) (sym is)) ∙ unfit_checked sum (single_added old k t.0 t.1 (k *ℤ t.1) product ∙ none)
        in
        and_right (fits_terms (scale_terms k us)) (fits_terms (merge ts (scale_terms k us))) (sum_unfit ts us k (i + 1) hts hus part)

-- one term more that fits
pub next_added : (ts us old new : Terms) (k : ℤ) (i : ℕ) (t : ℕ × ℤ) → IsTidy ts → IsTidy us → slice_get us i ≡ Some t → fits_terms (scale_terms k (take i us)) ≡ true → old ≡ merge ts (scale_terms k (take i us)) → added_terms old k (t ∷ []) ≡ Some new
    → (fits_terms (scale_terms k (take (i + 1) us)) ≡ true) × (new ≡ merge ts (scale_terms k (take (i + 1) us)))
next_added ts us old new k i t hts hus e fits is f =
    let us1 = with_term t.0 (k *ℤ t.1) [] in
    let p = cond_some (fits_terms us1 && fits_terms (merge old us1)) (merge old us1) new f in
    let both = and_parts (fits_terms us1) (fits_terms (merge old us1)) p.0 in
    (next_products us k i t e (single_fits t.0 (k *ℤ t.1) both.0) fits, sym p.1 ∙ ap (λ vs. merge vs us1) is ∙ next_sum ts us k i t hts hus e)

-- the terms at the end
pub added_end : (ts us new : Terms) (k : ℤ) (i : ℕ) → slice_get us i ≡ None → AreTerms new → fits_terms (scale_terms k (take i us)) ≡ true → new ≡ merge ts (scale_terms k (take i us)) → added_terms ts k us ≡ Some new
added_end ts us new k i e h products is =
    let all = take_all us i e in
    let sum : new ≡ merge ts (scale_terms k us) = is ∙ ap (λ vs. merge ts (scale_terms k vs)) all in
    cond-true (fits_terms (scale_terms k us) && fits_terms (merge ts (scale_terms k us))) (Some (merge ts (scale_terms k us))) None
    (and_both (fits_terms (scale_terms k us)) (fits_terms (merge ts (scale_terms k us))) (ap (λ vs. fits_terms (scale_terms k vs)) (sym all) ∙ products) (ap fits_terms (sym sum) ∙ h.1))
    ∙ ap Some (sym sum)

-- ---- terms that are taken away

-- k times the other terms take away just these
abbrev pub TakenAway : ℤ → Terms → Terms → Type 0
TakenAway k [] [] = ⊤
TakenAway k [] (u ∷ us) = ⊥
TakenAway k (t ∷ ts) [] = ⊥
TakenAway k (t ∷ ts) (u ∷ us) = (t.0 ≡ u.0) × (fits_i128 (k *ℤ u.1) ≡ true) × (t.1 +ℤ k *ℤ u.1 ≡ pos 0) × TakenAway k ts us

-- one term more
pub taken_next : (ts us : Terms) (k : ℤ) (i : ℕ) (t u : ℕ × ℤ) → slice_get ts i ≡ Some t → slice_get us i ≡ Some u → t.0 ≡ u.0 → fits_i128 (k *ℤ u.1) ≡ true → t.1 +ℤ k *ℤ u.1 ≡ pos 0
    → TakenAway k (take i ts) (take i us) → TakenAway k (take (i + 1) ts) (take (i + 1) us)
taken_next ts us k i t u at other same fit gone h = subst (λ n. TakenAway k (take n ts) (take n us)) (sym (add-one i)) (go ts us i at other h)
  where
    go : (vs ws : Terms) (j : ℕ) → slice_get vs j ≡ Some t → slice_get ws j ≡ Some u → TakenAway k (take j vs) (take j ws) → TakenAway k (take (suc j) vs) (take (suc j) ws)
    go [] ws j a b h = absurd (none-some t a)
    go (v ∷ vs) [] j a b h = absurd (none-some u b)
    go (v ∷ vs) (w ∷ ws) zero a b h =
        let p : v ≡ t = same_Some v t a in
        let q : w ≡ u = same_Some w u b in
        subst (λ x. TakenAway k (x ∷ []) (w ∷ [])) (sym p) (subst (λ x. TakenAway k (t ∷ []) (x ∷ [])) (sym q) (same, fit, gone, tt))
    go (v ∷ vs) (w ∷ ws) (suc j) a b h = (h.0, h.1, h.2, go vs ws j a b h.3)

-- nothing is left
taken_all : (ts us : Terms) (k : ℤ) (low : ℕ) → IsTidyFrom low ts → TakenAway k ts us → (fits_terms (scale_terms k us) ≡ true) × (merge ts (scale_terms k us) ≡ [])
taken_all [] [] k low tidy h = (refl, refl)
taken_all [] (u ∷ us) k low tidy h = absurd h
taken_all (t ∷ ts) [] k low tidy h = absurd h
taken_all (t ∷ ts) (u ∷ us) k low tidy h =
    let d = k *ℤ u.1 in
    let rest = taken_all ts us k (t.0 + 1) tidy.2 h.3 in
    let nonzero : d ≢ pos 0 = λ e. tidy.1 (omega (arith, ints, e, h.2)) in
    let alone : scale_terms k (u ∷ us) ≡ (u.0, d) ∷ scale_terms k us = term_alone u.0 d (scale_terms k us) nonzero in (
      ap fits_terms alone ∙ and_both (fits_i128 d) (fits_terms (scale_terms k us)) h.1 rest.0,
      ap (merge (t ∷ ts)) alone
          ∙ cond-false (nat_lt t.0 u.0) _ _ (le-ltb t.0 u.0 (omega (arith, h.0)))
          ∙ cond-false (nat_lt u.0 t.0) _ _ (le-ltb u.0 t.0 (omega (arith, h.0)))
          ∙ term_gone t.0 (t.1 +ℤ d) (merge ts (scale_terms k us)) h.2
          ∙ rest.1,
    )

-- the terms at the end
pub taken_end : (ts us : Terms) (k : ℤ) (i : ℕ) → IsTidy ts → length ts ≡ i → slice_get us i ≡ None → TakenAway k (take i ts) (take i us) → added_terms ts k us ≡ Some []
taken_end ts us k i tidy all none h =
    let own : take i ts ≡ ts = ap (λ n. take n ts) (sym all) ∙ take_length ts in
    let other : take i us ≡ us = take_all us i none in
    let p = taken_all ts us k 0 tidy (subst (λ vs. TakenAway k vs us) own (subst (λ vs. TakenAway k (take i ts) vs) other h)) in
    let sum = merge ts (scale_terms k us) in
    cond-true (fits_terms (scale_terms k us) && fits_terms sum) (Some sum) None (and_both (fits_terms (scale_terms k us)) (fits_terms sum) p.0 (ap fits_terms p.1)) ∙ ap Some p.1
  where
    take_length : (vs : Terms) → take (length vs) vs ≡ vs
    take_length [] = refl
    take_length (v ∷ vs) = ap (λ ws. v ∷ ws) (take_length vs)

-- ---- a form: its terms, and its constant

pub form_added : (f g : FormValue) (k : ℤ) (ts : Terms) (c : ℤ) → added_terms f.terms k g.terms ≡ Some ts → added_int f.constant k g.constant ≡ Some c → add_scaled f k g ≡ Some (form_value ts c)
form_added f g k ts c e d =
    let p = cond_some (fits_terms (scale_terms k g.terms) && fits_terms (merge f.terms (scale_terms k g.terms))) (merge f.terms (scale_terms k g.terms)) ts e in
    let q = cond_some (fits_i128 (k *ℤ g.constant) && fits_i128 (f.constant +ℤ k *ℤ g.constant)) (f.constant +ℤ k *ℤ g.constant) c d in
    let terms = and_parts (fits_terms (scale_terms k g.terms)) (fits_terms (merge f.terms (scale_terms k g.terms))) p.0 in
    let constants = and_parts (fits_i128 (k *ℤ g.constant)) (fits_i128 (f.constant +ℤ k *ℤ g.constant)) q.0 in
    cond-true (fits_form (scaled k g) && fits_form (plus f (scaled k g))) (Some (plus f (scaled k g))) None
    (and_both (fits_form (scaled k g)) (fits_form (plus f (scaled k g)))
    (and_both (fits_terms (scale_terms k g.terms)) (fits_i128 (k *ℤ g.constant)) terms.0 constants.0)
    (and_both (fits_terms (merge f.terms (scale_terms k g.terms))) (fits_i128 (f.constant +ℤ k *ℤ g.constant)) terms.1 constants.1))
    ∙ ap₂ (λ us z. Some (form_value us z)) p.1 q.1

no_form : (f g : FormValue) (k : ℤ) → (fits_form (scaled k g) && fits_form (plus f (scaled k g))) ≡ false → add_scaled f k g ≡ None
no_form f g k e = cond-false (fits_form (scaled k g) && fits_form (plus f (scaled k g))) (Some (plus f (scaled k g))) None e

four : (a b c d : Bool) → cond (a && b) true false ≡ false → ((a && c) && (b && d)) ≡ false
four true true c d e = absurd (both_ways true e refl)
four true false c d e = and_right (true && c) false refl
four false b c d e = refl

other_four : (a b c d : Bool) → cond (c && d) true false ≡ false → ((a && c) && (b && d)) ≡ false
other_four a b true true e = absurd (both_ways true e refl)
other_four a b true false e = and_right (a && true) (b && false) (and_right b false refl)
other_four a b false d e = and_left (a && false) (b && d) (and_right a false refl)

none_cond : {A : Type 0} (b : Bool) (x : A) → cond b (Some x) None ≡ None → cond b true false ≡ false
none_cond true x e = absurd (none-some x (sym e))
none_cond false x e = refl

pub terms_stop : (f g : FormValue) (k : ℤ) → added_terms f.terms k g.terms ≡ None → add_scaled f k g ≡ None
terms_stop f g k e =
    no_form f g k
    (four (fits_terms (scale_terms k g.terms)) (fits_terms (merge f.terms (scale_terms k g.terms))) (fits_i128 (k *ℤ g.constant)) (fits_i128 (f.constant +ℤ k *ℤ g.constant))
    (none_cond (fits_terms (scale_terms k g.terms) && fits_terms (merge f.terms (scale_terms k g.terms))) (merge f.terms (scale_terms k g.terms)) e))

pub constant_stops : (f g : FormValue) (k : ℤ) → added_int f.constant k g.constant ≡ None → add_scaled f k g ≡ None
constant_stops f g k e =
    no_form f g k
    (other_four (fits_terms (scale_terms k g.terms)) (fits_terms (merge f.terms (scale_terms k g.terms))) (fits_i128 (k *ℤ g.constant)) (fits_i128 (f.constant +ℤ k *ℤ g.constant))
    (none_cond (fits_i128 (k *ℤ g.constant) && fits_i128 (f.constant +ℤ k *ℤ g.constant)) (f.constant +ℤ k *ℤ g.constant) e))

-- ---- the answers of the two

pub stops_from : {Y Z : Type 0} (e d : FormError) (o : Option Y) (p : Option Z) → FailsAs e faults.TooLarge o → d ≡ e → (o ≡ None → p ≡ None) → FailsAs d faults.TooLarge p
stops_from errors.Memory d o p h q f = subst (λ x. FailsAs x faults.TooLarge p) (sym q) tt
stops_from (errors.Fault fault) d o p h q f = subst (λ x. FailsAs x faults.TooLarge p) (sym q) (h.0, f h.1)

-- the sum of a number and a product, where both fit
pub int_added : (c k d p z : ℤ) → checked_int (k *ℤ d) ≡ Some p → checked_int (c +ℤ p) ≡ Some z → added_int c k d ≡ Some z
int_added c k d p z e f =
    let product = checked_some (k *ℤ d) p e in
    let total = checked_some (c +ℤ p) z f in
    let same : c +ℤ k *ℤ d ≡ c +ℤ p = ap (λ x. c +ℤ x) product.1 in
    cond-true (fits_i128 (k *ℤ d) && fits_i128 (c +ℤ k *ℤ d)) (Some (c +ℤ k *ℤ d)) None (and_both (fits_i128 (k *ℤ d)) (fits_i128 (c +ℤ k *ℤ d)) product.0 (ap fits_i128 same ∙ total.0))
    ∙ ap Some (same ∙ total.1)

pub int_product_stops : (c k d : ℤ) → checked_int (k *ℤ d) ≡ None → added_int c k d ≡ None
int_product_stops c k d e =
    cond-false (fits_i128 (k *ℤ d) && fits_i128 (c +ℤ k *ℤ d)) (Some (c +ℤ k *ℤ d)) None (and_left (fits_i128 (k *ℤ d)) (fits_i128 (c +ℤ k *ℤ d)) (int_unfit (k *ℤ d) e))

pub int_sum_stops : (c k d p : ℤ) → checked_int (k *ℤ d) ≡ Some p → checked_int (c +ℤ p) ≡ None → added_int c k d ≡ None
int_sum_stops c k d p e f =
    let product = checked_some (k *ℤ d) p e in
    let same : c +ℤ k *ℤ d ≡ c +ℤ p = ap (λ x. c +ℤ x) product.1 in
    cond-false (fits_i128 (k *ℤ d) && fits_i128 (c +ℤ k *ℤ d)) (Some (c +ℤ k *ℤ d)) None
    (and_right (fits_i128 (k *ℤ d)) (fits_i128 (c +ℤ k *ℤ d)) (ap fits_i128 same ∙ int_unfit (c +ℤ p) f))
