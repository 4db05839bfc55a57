-- The steps of the loops over terms.
use Rattle.std.proofs.Common.{◌≡◌, ℕ, zero, suc, ◌+◌, ◌<◌, ◌≤◌, ◌^◌, ℤ, pos, negsuc, ◌+ℤ◌, ◌*ℤ◌, [], ◌∷◌, ◌++◌, length, drop, get_or, Bool, true, false, ◌&&◌, cond, Option, Some, None, Err, ◌⊎◌, inl, inr, refl, sym, ap, ap₂, ◌∙◌, subst, arith, append_assoc, drop-cons, add-one, FitsSigned}
use mir.Syntax.{w128}
use Rattle.std.specs.Prelude.{nat_lt, not, ◌==◌, int_div, int_rem, ◌≤ℤ◌}
use Rattle.std.specs.List.{list_all}
use Rattle.std.specs.Option.{SomeIff}
use Rattle.std.specs.Ordering.{int_eq}
use Rattle.std.proofs.lemmas.Bool.{cond_both, lt-ltb, ltb-true, ltb-false, le-ltb, and_parts, false_from_ne_true, cond-true, cond-false, both_ways}
use Rattle.std.proofs.lemmas.Bool.Decides.{Decides-int_eq}
use Rattle.std.proofs.lemmas.Int.{ints, quot-rem, quot_fits}
use Rattle.std.proofs.Math.IntN.{zero-*ℤ}
use Rattle.std.proofs.lemmas.Option.{none-some, same_Some, cond_some}
use Rattle.std.proofs.lemmas.Grind.{common_steps}
use Rattle.og_linear.specs.Linear.{Terms}
use Rattle.og_linear.specs.Tidy.{IsTidyFrom, IsTidy}
use Rattle.og_linear.specs.Arith.{with_term, scale_terms, merge_in, merge}
use Rattle.og_linear.specs.Bounded.{fits_i128, fits_terms, divides, divide_terms}
use Rattle.og_linear.specs.Replaced.{other_terms}
use Rattle.og_linear.specs.Answer.{checked_int, checked_terms, divided_int, divided_terms, FailsAs, IsAnswer}
use Rattle.og_linear.specs.declared.fault.FormError.{FormError}
use Rattle.og_linear.specs.declared.fault.FormError.TheVariants as errors
use Rattle.og_linear.specs.declared.fault.FormFault.TheVariants as faults

-- the answer with these terms before it
abbrev pub with_front : Terms → Option Terms → Option Terms
with_front front None = None
with_front front (Some ts) = Some (front ++ ts)

pub none_behind : (xs : Terms) → xs ++ [] ≡ xs
none_behind [] = refl
none_behind (y ∷ ys) = ap (λ zs. y ∷ zs) (none_behind ys)

drop_all : (xs : Terms) (i : ℕ) → length xs ≤ i → drop i xs ≡ []
drop_all xs i h = grind (arith, common_steps)

-- ---- ranges

pub fits_true : (z : ℤ) → FitsSigned w128 z → fits_i128 z ≡ true
fits_true (pos n) f = lt-ltb n (2 ^ 127) f.sfits
fits_true (negsuc n) f = lt-ltb n (2 ^ 127) f.sfits

pub fits_from : (z : ℤ) → fits_i128 z ≡ true → FitsSigned w128 z
fits_from (pos n) e = record { sfits = ltb-true n (2 ^ 127) e }
fits_from (negsuc n) e = record { sfits = ltb-true n (2 ^ 127) e }

pub fits_false : (z : ℤ) → ¬ FitsSigned w128 z → fits_i128 z ≡ false
fits_false z n = false_from_ne_true (fits_i128 z) (λ e. n (fits_from z e))

pub and_both : (b d : Bool) → b ≡ true → d ≡ true → (b && d) ≡ true
and_both true d h k = k
and_both false d h k = h

-- ---- one term

front_seam : (out : Terms) (x : ℕ) (c : ℤ) (rest : Terms) → fits_i128 c ≡ true → with_front out (checked_terms ((x, c) ∷ rest)) ≡ with_front (out ++ (x, c) ∷ []) (checked_terms rest)
front_seam out x c rest e = go (fits_i128 c) (fits_terms rest) e
  where
    go : (b d : Bool) → b ≡ true → with_front out (cond (b && d) (Some ((x, c) ∷ rest)) None) ≡ with_front (out ++ (x, c) ∷ []) (cond d (Some rest) None)
    go true true h = ap Some (sym (append_assoc out ((x, c) ∷ []) rest))
    go true false h = refl
    go false d h = absurd (both_ways false refl h)

front_none : (out rest : Terms) (x : ℕ) (c : ℤ) → fits_i128 c ≡ false → checked_terms ((x, c) ∷ rest) ≡ None
front_none out rest x c e = go (fits_i128 c) (fits_terms rest) e
  where
    go : (b d : Bool) → b ≡ false → cond (b && d) (Some ((x, c) ∷ rest)) None ≡ None
    go true d h = absurd (both_ways true h refl)
    go false d h = refl

pub front_term : (out : Terms) (x : ℕ) (c : ℤ) (rest : Terms) → fits_i128 c ≡ true → with_front out (checked_terms (with_term x c rest)) ≡ with_front (out ++ with_term x c []) (checked_terms rest)
front_term out x c rest e = go (int_eq c (pos 0))
  where
    none_added : (xs : Terms) → xs ++ [] ≡ xs
    none_added [] = refl
    none_added (y ∷ ys) = ap (λ zs. y ∷ zs) (none_added ys)

    go : (b : Bool) → with_front out (checked_terms (cond b rest ((x, c) ∷ rest))) ≡ with_front (out ++ cond b [] ((x, c) ∷ [])) (checked_terms rest)
    go true = ap (λ o. with_front o (checked_terms rest)) (sym (none_added out))
    go false = front_seam out x c rest e

pub term_none : (out rest : Terms) (x : ℕ) (c : ℤ) → fits_i128 c ≡ false → with_front out (checked_terms (with_term x c rest)) ≡ None
term_none out rest x c e = go (int_eq c (pos 0)) refl
  where
    go : (b : Bool) → int_eq c (pos 0) ≡ b → with_front out (checked_terms (cond b rest ((x, c) ∷ rest))) ≡ None
    go true h = absurd (both_ways (fits_i128 c) e (ap fits_i128 ((Decides-int_eq c (pos 0)).0 h)))
    go false h = ap (with_front out) (front_none out rest x c e)

pub some_fits : (r : Option ℤ) (z c : ℤ) → SomeIff r (FitsSigned w128 z) z → r ≡ Some c → (fits_i128 z ≡ true) × (c ≡ z)
some_fits None z c h e = absurd (none-some c e)
some_fits (Some d) z c h e = (fits_true z h.0, sym (same_Some d c e) ∙ h.1)

pub none_fits : (r : Option ℤ) (z : ℤ) → SomeIff r (FitsSigned w128 z) z → r ≡ None → fits_i128 z ≡ false
none_fits None z h e = fits_false z h
none_fits (Some d) z h e = absurd (none-some d (sym e))

pub drop_at : (ts : Terms) (i : ℕ) → i < length ts → drop i ts ≡ get_or ts i (0, pos 0) ∷ drop (i + 1) ts
drop_at ts i h = drop-cons ts i (0, pos 0) h ∙ ap (λ k. get_or ts i (0, pos 0) ∷ drop k ts) (sym (add-one i))

pub checked_some : (z c : ℤ) → checked_int z ≡ Some c → (fits_i128 z ≡ true) × (z ≡ c)
checked_some z c e = cond_some (fits_i128 z) z c e

checked_none : (z : ℤ) → checked_int z ≡ None → fits_i128 z ≡ false
checked_none z e = go (fits_i128 z) e
  where
    go : (b : Bool) → cond b (Some z) None ≡ None → b ≡ false
    go true h = absurd (none-some z (sym h))
    go false h = refl

-- ---- the loop over multiples

pub scale_turn : (k e c d : ℤ) (ts out new : Terms) (i : ℕ) → i < length ts → e ≡ (get_or ts i (0, pos 0)).1 → checked_int (k *ℤ e) ≡ Some c → d ≡ c → new ≡ out ++ with_term (get_or ts i (0, pos 0)).0 d [] → with_front new (checked_terms (scale_terms k (drop (i + 1) ts))) ≡ with_front out (checked_terms (scale_terms k (drop i ts)))
scale_turn k e c d ts out new i h is s q n =
    let fit = checked_some (k *ℤ e) c s in
    let t = get_or ts i (0, pos 0) in
    let product : k *ℤ t.1 ≡ d = ap (λ x. k *ℤ x) (sym is) ∙ fit.1 ∙ sym q in
    ap (λ o. with_front o (checked_terms (scale_terms k (drop (i + 1) ts)))) n
    ∙ sym (front_term out t.0 d (scale_terms k (drop (i + 1) ts)) (ap fits_i128 (q ∙ sym fit.1) ∙ fit.0))
    ∙ ap (λ x. with_front out (checked_terms (with_term t.0 x (scale_terms k (drop (i + 1) ts))))) (sym product)
    ∙ ap (λ xs. with_front out (checked_terms (scale_terms k xs))) (sym (drop_at ts i h))

pub scale_fails : (k e : ℤ) (ts out : Terms) (i : ℕ) (all : Option Terms) → i < length ts → e ≡ (get_or ts i (0, pos 0)).1 → checked_int (k *ℤ e) ≡ None → with_front out (checked_terms (scale_terms k (drop i ts))) ≡ all → all ≡ None
scale_fails k e ts out i all h is q inv =
    let t = get_or ts i (0, pos 0) in
    sym inv
    ∙ ap (λ xs. with_front out (checked_terms (scale_terms k xs))) (drop_at ts i h)
    ∙ term_none out (scale_terms k (drop (i + 1) ts)) t.0 (k *ℤ t.1) (ap (λ x. fits_i128 (k *ℤ x)) (sym is) ∙ checked_none (k *ℤ e) q)

pub scale_end : (k : ℤ) (ts out : Terms) (i : ℕ) (all : Option Terms) → length ts ≤ i → with_front out (checked_terms (scale_terms k (drop i ts))) ≡ all → all ≡ Some out
scale_end k ts out i all h inv =
    sym inv ∙ ap (λ xs. with_front out (checked_terms (scale_terms k xs))) (drop_all ts i h) ∙ ap Some (none_behind out)

-- ---- the loop over two lists

front_drop : (a b out : Terms) (i j : ℕ) → i < length a → j < length b → with_front out (checked_terms (merge (drop i a) (drop j b))) ≡ with_front out (checked_terms (merge_in (get_or a i (0, pos 0)) (merge (drop (i + 1) a)) (get_or b j (0, pos 0) ∷ drop (j + 1) b)))
front_drop a b out i j h k =
    ap₂ (λ xs ys. with_front out (checked_terms (merge xs ys))) (drop_at a i h) (drop_at b j k)

pub merge_left : (a b out new : Terms) (i j : ℕ) (c : ℤ) → i < length a → j < length b → (get_or a i (0, pos 0)).0 < (get_or b j (0, pos 0)).0 → FitsSigned w128 (get_or a i (0, pos 0)).1 → c ≡ (get_or a i (0, pos 0)).1 → new ≡ out ++ ((get_or a i (0, pos 0)).0, c) ∷ [] → with_front new (checked_terms (merge (drop (i + 1) a) (drop j b))) ≡ with_front out (checked_terms (merge (drop i a) (drop j b)))
merge_left a b out new i j c h k lt fit is n =
    let t = get_or a i (0, pos 0) in
    let u = get_or b j (0, pos 0) in
    let rest = merge (drop (i + 1) a) (u ∷ drop (j + 1) b) in
    ap (λ o. with_front o (checked_terms (merge (drop (i + 1) a) (drop j b)))) (n ∙ ap (λ x. out ++ (t.0, x) ∷ []) is)
    ∙ ap (λ ys. with_front (out ++ t ∷ []) (checked_terms (merge (drop (i + 1) a) ys))) (drop_at b j k)
    ∙ sym (front_seam out t.0 t.1 rest (fits_true t.1 fit))
    ∙ ap (λ ts. with_front out (checked_terms ts)) (sym (cond-true (nat_lt t.0 u.0) (t ∷ rest) _ (lt-ltb t.0 u.0 lt)))
    ∙ sym (front_drop a b out i j h k)

pub merge_right : (a b out new : Terms) (i j : ℕ) (c : ℤ) → i < length a → j < length b → (get_or b j (0, pos 0)).0 < (get_or a i (0, pos 0)).0 → FitsSigned w128 (get_or b j (0, pos 0)).1 → c ≡ (get_or b j (0, pos 0)).1 → new ≡ out ++ ((get_or b j (0, pos 0)).0, c) ∷ [] → with_front new (checked_terms (merge (drop i a) (drop (j + 1) b))) ≡ with_front out (checked_terms (merge (drop i a) (drop j b)))
merge_right a b out new i j c h k lt fit is n =
    let t = get_or a i (0, pos 0) in
    let u = get_or b j (0, pos 0) in
    let rest = merge_in t (merge (drop (i + 1) a)) (drop (j + 1) b) in
    let not_left : t.0 < u.0 → ⊥ = λ p. omega (arith, p, lt) in
    ap (λ o. with_front o (checked_terms (merge (drop i a) (drop (j + 1) b)))) (n ∙ ap (λ x. out ++ (u.0, x) ∷ []) is)
    ∙ ap (λ xs. with_front (out ++ u ∷ []) (checked_terms (merge xs (drop (j + 1) b)))) (drop_at a i h)
    ∙ sym (front_seam out u.0 u.1 rest (fits_true u.1 fit))
    ∙ ap (λ ts. with_front out (checked_terms ts)) (sym (cond-true (nat_lt u.0 t.0) (u ∷ rest) _ (lt-ltb u.0 t.0 lt)))
    ∙ ap (λ ts. with_front out (checked_terms ts)) (sym (cond-false (nat_lt t.0 u.0) _ _ (le-ltb t.0 u.0 (omega (arith, lt)))))
    ∙ sym (front_drop a b out i j h k)

-- both lists have a term of the same variable
merged_same : (a b out : Terms) (i j : ℕ) → i < length a → j < length b → (get_or b j (0, pos 0)).0 ≤ (get_or a i (0, pos 0)).0 → (get_or a i (0, pos 0)).0 ≤ (get_or b j (0, pos 0)).0 → with_front out (checked_terms (merge (drop i a) (drop j b))) ≡ with_front out (checked_terms (with_term (get_or a i (0, pos 0)).0 ((get_or a i (0, pos 0)).1 +ℤ (get_or b j (0, pos 0)).1) (merge (drop (i + 1) a) (drop (j + 1) b))))
merged_same a b out i j h k ge le =
    let t = get_or a i (0, pos 0) in
    let u = get_or b j (0, pos 0) in
    front_drop a b out i j h k
    ∙ ap (λ ts. with_front out (checked_terms ts)) (cond-false (nat_lt t.0 u.0) _ _ (le-ltb t.0 u.0 ge))
    ∙ ap (λ ts. with_front out (checked_terms ts)) (cond-false (nat_lt u.0 t.0) _ _ (le-ltb u.0 t.0 le))

pub merge_both : (a b out new : Terms) (i j : ℕ) (c d e f : ℤ) → i < length a → j < length b → (get_or b j (0, pos 0)).0 ≤ (get_or a i (0, pos 0)).0 → (get_or a i (0, pos 0)).0 ≤ (get_or b j (0, pos 0)).0 → c ≡ (get_or a i (0, pos 0)).1 → d ≡ (get_or b j (0, pos 0)).1 → checked_int (c +ℤ d) ≡ Some e → f ≡ e → new ≡ out ++ with_term (get_or a i (0, pos 0)).0 f [] → with_front new (checked_terms (merge (drop (i + 1) a) (drop (j + 1) b))) ≡ with_front out (checked_terms (merge (drop i a) (drop j b)))
merge_both a b out new i j c d e f h k ge le is is' s q n =
    let t = get_or a i (0, pos 0) in
    let u = get_or b j (0, pos 0) in
    let fit = checked_some (c +ℤ d) e s in
    let total : t.1 +ℤ u.1 ≡ f = ap₂ ◌+ℤ◌ (sym is) (sym is') ∙ fit.1 ∙ sym q in
    ap (λ o. with_front o (checked_terms (merge (drop (i + 1) a) (drop (j + 1) b)))) n
    ∙ sym (front_term out t.0 f (merge (drop (i + 1) a) (drop (j + 1) b)) (ap fits_i128 (q ∙ sym fit.1) ∙ fit.0))
    ∙ ap (λ x. with_front out (checked_terms (with_term t.0 x (merge (drop (i + 1) a) (drop (j + 1) b))))) (sym total)
    ∙ sym (merged_same a b out i j h k ge le)

pub merge_fails : (a b out : Terms) (i j : ℕ) (c d : ℤ) (all : Option Terms) → i < length a → j < length b → (get_or b j (0, pos 0)).0 ≤ (get_or a i (0, pos 0)).0 → (get_or a i (0, pos 0)).0 ≤ (get_or b j (0, pos 0)).0 → c ≡ (get_or a i (0, pos 0)).1 → d ≡ (get_or b j (0, pos 0)).1 → checked_int (c +ℤ d) ≡ None → with_front out (checked_terms (merge (drop i a) (drop j b))) ≡ all → all ≡ None
merge_fails a b out i j c d all h k ge le is is' s inv =
    let t = get_or a i (0, pos 0) in
    sym inv ∙ merged_same a b out i j h k ge le
    ∙ term_none out (merge (drop (i + 1) a) (drop (j + 1) b)) t.0 (t.1 +ℤ (get_or b j (0, pos 0)).1) (ap fits_i128 (ap₂ ◌+ℤ◌ (sym is) (sym is')) ∙ checked_none (c +ℤ d) s)

pub with_front-none : (out : Terms) (o : Option Terms) → with_front out o ≡ None → o ≡ None
with_front-none out None e = refl
with_front-none out (Some x) e = absurd (none-some (out ++ x) (sym e))

pub merge-none : (ts : Terms) → merge ts [] ≡ ts
merge-none [] = refl
merge-none (t ∷ ts) = ap (λ us. t ∷ us) (merge-none ts)

fits_drop : (ts : Terms) (i : ℕ) → fits_terms ts ≡ true → fits_terms (drop i ts) ≡ true
fits_drop ts zero e = e
fits_drop [] (suc i) e = e
fits_drop (t ∷ ts) (suc i) e = fits_drop ts i (and_parts (fits_i128 t.1) (fits_terms ts) e).1

-- at the end of one of the lists the other is appended
pub merge_end : (a b out one two : Terms) (i j : ℕ) (all : Option Terms) → fits_terms a ≡ true → fits_terms b ≡ true → (length a ≤ i) ⊎ (length b ≤ j) → one ≡ out ++ drop i a → two ≡ one ++ drop j b → with_front out (checked_terms (merge (drop i a) (drop j b))) ≡ all → all ≡ Some two
merge_end a b out one two i j all p q (inl h) e f inv =
    let gone = drop_all a i h in
    sym inv
    ∙ ap (λ xs. with_front out (checked_terms (merge xs (drop j b)))) gone
    ∙ ap (with_front out) (cond-true (fits_terms (drop j b)) (Some (drop j b)) None (fits_drop b j q))
    ∙ ap Some (sym (f ∙ ap (λ o. o ++ drop j b) (e ∙ ap (λ xs. out ++ xs) gone ∙ none_behind out)))
merge_end a b out one two i j all p q (inr h) e f inv =
    let gone = drop_all b j h in
    sym inv
    ∙ ap (λ ys. with_front out (checked_terms (merge (drop i a) ys))) gone
    ∙ ap (λ ts. with_front out (checked_terms ts)) (merge-none (drop i a))
    ∙ ap (with_front out) (cond-true (fits_terms (drop i a)) (Some (drop i a)) None (fits_drop a i p))
    ∙ ap Some (sym (f ∙ ap (λ xs. one ++ xs) gone ∙ none_behind one ∙ e))

-- ---- the loop over quotients

divided_seam : (d : ℤ) (out : Terms) (t : ℕ × ℤ) (rest : Terms) → divides d t.1 ≡ true → with_front out (divided_terms d (t ∷ rest)) ≡ with_front (out ++ (t.0, int_div t.1 d) ∷ []) (divided_terms d rest)
divided_seam d out t rest e = go (divides d t.1) (list_all (λ u. divides d u.1) rest) e
  where
    go : (b p : Bool) → b ≡ true → with_front out (cond (b && p) (Some ((t.0, int_div t.1 d) ∷ divide_terms d rest)) None) ≡ with_front (out ++ (t.0, int_div t.1 d) ∷ []) (cond p (Some (divide_terms d rest)) None)
    go true true h = ap Some (sym (append_assoc out ((t.0, int_div t.1 d) ∷ []) (divide_terms d rest)))
    go true false h = refl
    go false p h = absurd (both_ways false refl h)

pub divide_turn : (d e c q : ℤ) (ts out new : Terms) (i : ℕ) → i < length ts → e ≡ (get_or ts i (0, pos 0)).1 → divided_int d e ≡ Some c → q ≡ c → new ≡ out ++ ((get_or ts i (0, pos 0)).0, q) ∷ [] → with_front new (divided_terms d (drop (i + 1) ts)) ≡ with_front out (divided_terms d (drop i ts))
divide_turn d e c q ts out new i h is s same n =
    let t = get_or ts i (0, pos 0) in
    let parts = cond_some (divides d e) (int_div e d) c s in
    let quotient : q ≡ int_div t.1 d = same ∙ sym parts.1 ∙ ap (λ x. int_div x d) is in
    ap (λ o. with_front o (divided_terms d (drop (i + 1) ts))) (n ∙ ap (λ x. out ++ (t.0, x) ∷ []) quotient)
    ∙ sym (divided_seam d out t (drop (i + 1) ts) (ap (divides d) (sym is) ∙ parts.0))
    ∙ ap (λ xs. with_front out (divided_terms d xs)) (sym (drop_at ts i h))

pub divide_end : (d : ℤ) (ts out : Terms) (i : ℕ) (all : Option Terms) → length ts ≤ i → with_front out (divided_terms d (drop i ts)) ≡ all → all ≡ Some out
divide_end d ts out i all h inv =
    sym inv ∙ ap (λ xs. with_front out (divided_terms d xs)) (drop_all ts i h) ∙ ap Some (none_behind out)

-- ---- faults

pub fails_from : {X : Type 0} (view : X → Terms) (e d : FormError) (o : Option ℤ) (p : Option Terms) → FailsAs e faults.TooLarge o → d ≡ e → (o ≡ None → p ≡ None) → IsAnswer view faults.TooLarge (Err d) p
fails_from view errors.Memory d o p h q f = subst (λ x. IsAnswer view faults.TooLarge (Err x) p) (sym q) tt
fails_from view (errors.Fault fault) d o p h q f = subst (λ x. IsAnswer view faults.TooLarge (Err x) p) (sym q) (h.0, f h.1)

-- ---- tidy terms

tidy_weaker : (low high : ℕ) (ts : Terms) → low ≤ high → IsTidyFrom high ts → IsTidyFrom low ts
tidy_weaker low high [] h t = tt
tidy_weaker low high (x ∷ xs) h t = (omega (arith, t.0), t.1, t.2)

tidy_term : (low x : ℕ) (c : ℤ) (rest : Terms) → low < x + 1 → IsTidyFrom (x + 1) rest → IsTidyFrom low (with_term x c rest)
tidy_term low x c rest h t =
    cond_both (int_eq c (pos 0)) rest ((x, c) ∷ rest) (IsTidyFrom low)
    (λ e. tidy_weaker low (x + 1) rest (omega (arith, h)) t)
    (λ e. (h, λ zero. both_ways (int_eq c (pos 0)) e ((Decides-int_eq c (pos 0)).1 zero), t))

pub tidy_scale : (k : ℤ) (low : ℕ) (ts : Terms) → IsTidyFrom low ts → IsTidyFrom low (scale_terms k ts)
tidy_scale k low [] h = tt
tidy_scale k low (t ∷ ts) h = tidy_term low t.0 (k *ℤ t.1) (scale_terms k ts) h.0 (tidy_scale k (t.0 + 1) ts h.2)

tidy_merge_in : (t : ℕ × ℤ) (ts : Terms) (low : ℕ) → IsTidyFrom low (t ∷ ts) → ((from : ℕ) (us : Terms) → IsTidyFrom from ts → IsTidyFrom from us → IsTidyFrom from (merge ts us)) → (us : Terms) → IsTidyFrom low us → IsTidyFrom low (merge_in t (merge ts) us)
tidy_merge_in t ts low h rec [] k = (h.0, h.1, rec (t.0 + 1) [] h.2 tt)
tidy_merge_in t ts low h rec (u ∷ us) k =
    cond_both (nat_lt t.0 u.0) _ _ (IsTidyFrom low)
    (λ e. (h.0, h.1, rec (t.0 + 1) (u ∷ us) h.2 (omega (arith, ltb-true t.0 u.0 e), k.1, k.2)))
    (λ e. cond_both (nat_lt u.0 t.0) _ _ (IsTidyFrom low)
    (λ f. (k.0, k.1, tidy_merge_in t ts (u.0 + 1) (omega (arith, ltb-true u.0 t.0 f), h.1, h.2) rec us k.2))
    (λ f.
    let same : u.0 ≡ t.0 = omega (arith, ltb-false t.0 u.0 e, ltb-false u.0 t.0 f) in
    tidy_term low t.0 (t.1 +ℤ u.1) (merge ts us) h.0 (rec (t.0 + 1) us h.2 (subst (λ x. IsTidyFrom (x + 1) us) same k.2))))

pub tidy_merge : (low : ℕ) (ts us : Terms) → IsTidyFrom low ts → IsTidyFrom low us → IsTidyFrom low (merge ts us)
tidy_merge low [] us h k = k
tidy_merge low (t ∷ ts) us h k = tidy_merge_in t ts low h (λ from vs p q. tidy_merge from ts vs p q) us k

pub checked_tidy : (all ts : Terms) → checked_terms all ≡ Some ts → IsTidy all → IsTidy ts × (fits_terms ts ≡ true)
checked_tidy all ts e h =
    let p = cond_some (fits_terms all) all ts e in
    (subst IsTidy p.1 h, subst (λ x. fits_terms x ≡ true) p.1 p.0)

-- ---- tidy terms of a form without a variable, and of a cut

tidy_others : (x low : ℕ) (ts : Terms) → IsTidyFrom low ts → IsTidyFrom low (other_terms x ts)
tidy_others x low [] h = tt
tidy_others x low (t ∷ ts) h =
    cond_both (not (x == t.0)) (t ∷ other_terms x ts) (other_terms x ts) (IsTidyFrom low)
    (λ e. (h.0, h.1, tidy_others x (t.0 + 1) ts h.2))
    (λ e. tidy_weaker low (t.0 + 1) (other_terms x ts) (omega (arith, h.0)) (tidy_others x (t.0 + 1) ts h.2))

fits_others : (x : ℕ) (ts : Terms) → fits_terms ts ≡ true → fits_terms (other_terms x ts) ≡ true
fits_others x [] h = refl
fits_others x (t ∷ ts) h =
    let both = and_parts (fits_i128 t.1) (fits_terms ts) h in
    cond_both (not (x == t.0)) (t ∷ other_terms x ts) (other_terms x ts) (λ us. fits_terms us ≡ true)
    (λ e. and_both (fits_i128 t.1) (fits_terms (other_terms x ts)) both.0 (fits_others x ts both.1))
    (λ e. fits_others x ts both.1)

pub others_tidy : (x : ℕ) (all ts : Terms) → ts ≡ other_terms x all → IsTidy all × (fits_terms all ≡ true) → IsTidy ts × (fits_terms ts ≡ true)
others_tidy x all ts e h =
    (subst IsTidy (sym e) (tidy_others x 0 all h.0), subst (λ us. fits_terms us ≡ true) (sym e) (fits_others x all h.1))

-- the quotient times d
pub divided : (d c : ℤ) → divides d c ≡ true → int_div c d *ℤ d ≡ c
divided d c e = let r : int_rem c d ≡ pos 0 = (Decides-int_eq _ _).0 e in omega (arith, ints, quot-rem c d)

tidy_divide : (d : ℤ) (low : ℕ) (ts : Terms) → list_all (λ t. divides d t.1) ts ≡ true → IsTidyFrom low ts → IsTidyFrom low (divide_terms d ts)
tidy_divide d low [] e h = tt
tidy_divide d low (t ∷ ts) e h =
    let both = and_parts (divides d t.1) (list_all (λ u. divides d u.1) ts) e in
    (h.0, (λ zero. h.1 (sym (divided d t.1 both.0) ∙ ap (λ q. q *ℤ d) zero ∙ zero-*ℤ d)), tidy_divide d (t.0 + 1) ts both.1 h.2)

fits_divide : (d : ℤ) (ts : Terms) → pos 1 ≤ℤ d → fits_terms ts ≡ true → fits_terms (divide_terms d ts) ≡ true
fits_divide d [] p h = refl
fits_divide d (t ∷ ts) p h =
    let both = and_parts (fits_i128 t.1) (fits_terms ts) h in
    and_both (fits_i128 (int_div t.1 d)) (fits_terms (divide_terms d ts))
    (fits_true (int_div t.1 d) (quot_fits w128 t.1 d (fits_from t.1 both.0) (omega (arith, ints))))
    (fits_divide d ts p both.1)

pub divided_tidy : (d : ℤ) (all ts : Terms) → pos 1 ≤ℤ d → divided_terms d all ≡ Some ts → IsTidy all × (fits_terms all ≡ true) → IsTidy ts × (fits_terms ts ≡ true)
divided_tidy d all ts p e h =
    let parts = cond_some (list_all (λ t. divides d t.1) all) (divide_terms d all) ts e in
    (subst IsTidy parts.1 (tidy_divide d 0 all parts.0 h.0), subst (λ us. fits_terms us ≡ true) parts.1 (fits_divide d all p h.1))
