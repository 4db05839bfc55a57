-- An assertion under an action's map is true exactly where the assertion is true after the action.
use Rattle.std.proofs.Common.{◌≡◌, ℕ, ◌<◌, ◌≤◌, ◌^◌, ℤ, pos, negsuc, ◌+ℤ◌, ◌*ℤ◌, List, [], ◌∷◌, map, Bool, true, false, not, ◌&&◌, ◌||◌, cond, Option, Some, None, refl, sym, ap, ap₂, ◌∙◌, subst, arith}
use Rattle.std.specs.Prelude.{int_le, option_and_then, option_map, nat_lt, ◌==◌, is_some}
use Rattle.std.specs.Ordering.{int_eq}
use Rattle.std.specs.List.{list_all}
use Rattle.std.proofs.lemmas.Int.{ints}
use Rattle.std.proofs.lemmas.Bool.{and_from, and_left, and_right, ltb-true, ltb-false}
use Rattle.std.proofs.lemmas.Option.{none-some, same_Some, option_and_then_some}
use Rattle.og_linear.specs.Linear.{FormValue, form_value, val, value_at, put, fits_i64}
use Rattle.og_linear.specs.Bounded.{MapValue, map_set, image, apply}
use Rattle.og_linear.proofs.Put.{put_at}
use Rattle.og_linear.proofs.Values.{Shows, val-add_scaled, val-apply, image-map_set}
use Rattle.og_typed.specs.Syntax.{Formula, Formulas, True, False, Le, Eq, Ne, Not, And, Or, Imp, none, more, Simple, Pass, Set}
use Rattle.og_typed.specs.Truth.{truth, all_true, some_true}
use Rattle.og_typed.specs.Machine.{act, all_fit}
use Rattle.og_subst.specs.Actions.{assigned_values}
use Rattle.og_subst.specs.Subst.{forward_on, forward, values_on, values, after, after_all, after_action, low, high, ranges, fits}

-- ---- maps

shows_itself : (s : List ℤ) → Shows [] s s
shows_itself s x = omega (arith, ints)

chosen : (b : Bool) (v f : FormValue) (s : List ℤ) (w u : ℤ) → w ≡ val v s → u ≡ val f s → cond b w u ≡ val (cond b v f) s
chosen true v f s w u e d = e
chosen false v f s w u e d = d

shows_set : (m : MapValue) (s r : List ℤ) (x : ℕ) (v : FormValue) (w : ℤ) → Shows m s r → w ≡ val v s → Shows (map_set m x v) s (put r x w)
shows_set m s r x v w h e y =
    put_at r x y w
    ∙ chosen (y == x) v (image m y) s w (value_at r y) e (h y)
    ∙ ap (λ f. val f s) (sym (image-map_set m x v y))

-- the value of a form under the map so far is its value in the state so far
shows_next : (m : MapValue) (s r : List ℤ) (x : ℕ) (f v : FormValue) → Shows m s r → apply m f ≡ Some v → Shows (map_set m x v) s (put r x (val f r))
shows_next m s r x f v h e = shows_set m s r x v (val f r) h (sym (val-apply m f v s r e h))

forward_shows : (body : List Simple) (m n : MapValue) (s r : List ℤ) → Shows m s r → forward_on body m ≡ Some n → Shows n s (act body r)
forward_shows [] m n s r h e = subst (λ k. Shows k s r) (same_Some m n e) h
forward_shows (Pass ∷ rest) m n s r h e = forward_shows rest m n s r h e
forward_shows (Set x f ∷ rest) m n s r h e =
    option_and_then_some (λ v. forward_on rest (map_set m x v)) (apply m f) n e
    (λ v p q. forward_shows rest (map_set m x v) n s (put r x (val f r)) (shows_next m s r x f v h p) q)

-- an action's map gives the values after the action
pub forward_said : (body : List Simple) (m : MapValue) (s : List ℤ) (x : ℕ) → forward body ≡ Some m → val (image m x) s ≡ value_at (act body s) x
forward_said body m s x e = sym (forward_shows body [] m s s (shows_itself s) e x)

-- ---- values

mapped : {A B : Type 0} (f : A → B) (o : Option A) (y : B) → option_map f o ≡ Some y → (x : A) × (o ≡ Some x) × (f x ≡ y)
mapped f None y e = absurd (none-some y e)
mapped f (Some x) y e = (x, refl, same_Some (f x) y e)

values_shown : (body : List Simple) (m : MapValue) (vs : List FormValue) (s r : List ℤ) → Shows m s r → values_on body m ≡ Some vs → map (λ v. val v s) vs ≡ assigned_values body r
values_shown [] m vs s r h e = ap (map (λ v. val v s)) (sym (same_Some [] vs e))
values_shown (Pass ∷ rest) m vs s r h e = values_shown rest m vs s r h e
values_shown (Set x f ∷ rest) m vs s r h e =
    option_and_then_some (λ v. option_map (λ others. v ∷ others) (values_on rest (map_set m x v))) (apply m f) vs e
    (λ v p q.
    let k = mapped (λ others. v ∷ others) (values_on rest (map_set m x v)) vs q in
    ap (map (λ v. val v s)) (sym k.2)
    ∙ ap₂ ◌∷◌ (val-apply m f v s r p h) (values_shown rest (map_set m x v) k.0 s (put r x (val f r)) (shows_next m s r x f v h p) k.1))

pub values_said : (body : List Simple) (vs : List FormValue) (s : List ℤ) → values body ≡ Some vs → map (λ v. val v s) vs ≡ assigned_values body s
values_said body vs s e = values_shown body [] vs s s (shows_itself s) e

pub all_fit_said : (body : List Simple) (s : List ℤ) → all_fit body s ≡ list_all fits_i64 (assigned_values body s)
all_fit_said [] s = refl
all_fit_said (Pass ∷ rest) s = all_fit_said rest s
all_fit_said (Set x e ∷ rest) s = ap (λ b. fits_i64 (val e s) && b) (all_fit_said rest (put s x (val e s)))

is_some-map : {A B : Type 0} (f : A → B) (o : Option A) → is_some (option_map f o) ≡ is_some o
is_some-map f None = refl
is_some-map f (Some x) = refl

is_some-both : {A B C : Type 0} (f : A → Option B) (g : A → Option C) → ((x : A) → is_some (f x) ≡ is_some (g x)) → (o : Option A) → is_some (option_and_then f o) ≡ is_some (option_and_then g o)
is_some-both f g h None = refl
is_some-both f g h (Some x) = h x

same_refusal : (body : List Simple) (m : MapValue) → is_some (values_on body m) ≡ is_some (forward_on body m)
same_refusal [] m = refl
same_refusal (Pass ∷ rest) m = same_refusal rest m
same_refusal (Set x f ∷ rest) m =
    is_some-both (λ v. option_map (λ others. v ∷ others) (values_on rest (map_set m x v))) (λ v. forward_on rest (map_set m x v))
    (λ v. is_some-map (λ others. v ∷ others) (values_on rest (map_set m x v)) ∙ same_refusal rest (map_set m x v))
    (apply m f)

pub refused_said : (body : List Simple) → is_some (values body) ≡ is_some (forward body)
refused_said body = same_refusal body []

-- ---- assertions

module _ (m : MapValue) (s r : List ℤ) (h : Shows m s r) where
  mutual
    after_shown : (a b : Formula) → after m a ≡ Some b → truth b s ≡ truth a r
    after_shown True b e = ap (λ c. truth c s) (sym (same_Some True b e))
    after_shown False b e = ap (λ c. truth c s) (sym (same_Some False b e))
    after_shown (Le f) b e =
        let p = mapped Le (apply m f) b e in
        ap (λ c. truth c s) (sym p.2) ∙ ap (λ v. int_le v (pos 0)) (val-apply m f p.0 s r p.1 h)
    after_shown (Eq f) b e =
        let p = mapped Eq (apply m f) b e in
        ap (λ c. truth c s) (sym p.2) ∙ ap (λ v. int_eq v (pos 0)) (val-apply m f p.0 s r p.1 h)
    after_shown (Ne f) b e =
        let p = mapped Ne (apply m f) b e in
        ap (λ c. truth c s) (sym p.2) ∙ ap (λ v. not (int_eq v (pos 0))) (val-apply m f p.0 s r p.1 h)
    after_shown (Not a) b e =
        let p = mapped Not (after m a) b e in
        ap (λ c. truth c s) (sym p.2) ∙ ap not (after_shown a p.0 p.1)
    after_shown (And all) b e =
        let p = mapped And (after_all m all) b e in
        ap (λ c. truth c s) (sym p.2) ∙ (after_all_shown all p.0 p.1).0
    after_shown (Or all) b e =
        let p = mapped Or (after_all m all) b e in
        ap (λ c. truth c s) (sym p.2) ∙ (after_all_shown all p.0 p.1).1
    after_shown (Imp a c) b e =
        option_and_then_some (λ x. option_map (Imp x) (after m c)) (after m a) b e
        (λ x p q.
        let k = mapped (Imp x) (after m c) b q in
        ap (λ c. truth c s) (sym k.2) ∙ ap₂ (λ v w. not v || w) (after_shown a x p) (after_shown c k.0 k.1))

    after_all_shown : (all others : Formulas) → after_all m all ≡ Some others → (all_true others s ≡ all_true all r) × (some_true others s ≡ some_true all r)
    after_all_shown none others e =
        (ap (λ c. all_true c s) (sym (same_Some none others e)), ap (λ c. some_true c s) (sym (same_Some none others e)))
    after_all_shown (more a rest) others e =
        option_and_then_some (λ x. option_map (more x) (after_all m rest)) (after m a) others e
        (λ x p q.
        let k = mapped (more x) (after_all m rest) others q in
        let tail = after_all_shown rest k.0 k.1 in (
          ap (λ c. all_true c s) (sym k.2) ∙ ap₂ ◌&&◌ (after_shown a x p) tail.0,
          ap (λ c. some_true c s) (sym k.2) ∙ ap₂ ◌||◌ (after_shown a x p) tail.1,
        ))

pub after_said : (body : List Simple) (m : MapValue) (a b : Formula) (s : List ℤ) → forward body ≡ Some m → after m a ≡ Some b → truth b s ≡ truth a (act body s)
after_said body m a b s e f = after_shown m s (act body s) (forward_shows body [] m s s (shows_itself s) e) a b f

pub after_action_said : (body : List Simple) (a b : Formula) (s : List ℤ) → after_action body a ≡ Some b → truth b s ≡ truth a (act body s)
after_action_said body a b s e =
    option_and_then_some (λ m. after m a) (forward body) b e (λ m p q. after_said body m a b s p q)

-- ---- ranges

in_i64 : (v l h : ℤ) → l ≡ negsuc 9223372036854775807 +ℤ negsuc 0 *ℤ v → h ≡ negsuc 9223372036854775806 +ℤ pos 1 *ℤ v → (int_le l (pos 0) && int_le h (pos 0)) ≡ fits_i64 v
in_i64 (pos n) l h p q = go (nat_lt n (2 ^ 63)) refl
  where
    go : (b : Bool) → nat_lt n (2 ^ 63) ≡ b → (int_le l (pos 0) && int_le h (pos 0)) ≡ b
    go true e =
        let k : n < 2 ^ 63 = ltb-true n (2 ^ 63) e in
        let l_is : true ≡ int_le l (pos 0) = omega (arith, ints) in
        let h_is : true ≡ int_le h (pos 0) = omega (arith, ints) in
        and_from _ _ (sym l_is) (sym h_is)
    go false e =
        let k : 2 ^ 63 ≤ n = ltb-false n (2 ^ 63) e in
        let h_is : false ≡ int_le h (pos 0) = omega (arith, ints) in
        and_right _ _ (sym h_is)
in_i64 (negsuc n) l h p q = go (nat_lt n (2 ^ 63)) refl
  where
    go : (b : Bool) → nat_lt n (2 ^ 63) ≡ b → (int_le l (pos 0) && int_le h (pos 0)) ≡ b
    go true e =
        let k : n < 2 ^ 63 = ltb-true n (2 ^ 63) e in
        let l_is : true ≡ int_le l (pos 0) = omega (arith, ints) in
        let h_is : true ≡ int_le h (pos 0) = omega (arith, ints) in
        and_from _ _ (sym l_is) (sym h_is)
    go false e =
        let k : 2 ^ 63 ≤ n = ltb-false n (2 ^ 63) e in
        let l_is : false ≡ int_le l (pos 0) = omega (arith, ints) in
        and_left _ _ (sym l_is)

and_shift : (a b c : Bool) → (a && (b && c)) ≡ ((a && b) && c)
and_shift true b c = refl
and_shift false b c = refl

pub ranges_said : (vs : List FormValue) (all : Formulas) (s : List ℤ) → ranges vs ≡ Some all → all_true all s ≡ list_all fits_i64 (map (λ v. val v s) vs)
ranges_said [] all s e = ap (λ c. all_true c s) (sym (same_Some none all e))
ranges_said (v ∷ vs) all s e =
    option_and_then_some (λ l. option_and_then (λ h. option_map (λ others. more (Le l) (more (Le h) others)) (ranges vs)) (high v)) (low v) all e
    (λ l el e2.
    option_and_then_some (λ h. option_map (λ others. more (Le l) (more (Le h) others)) (ranges vs)) (high v) all e2
    (λ u eu e3.
    let k = mapped (λ others. more (Le l) (more (Le u) others)) (ranges vs) all e3 in
    let is_low : val l s ≡ negsuc 9223372036854775807 +ℤ negsuc 0 *ℤ val v s = val-add_scaled (form_value [] (negsuc 9223372036854775807)) (negsuc 0) v l s el ∙ omega (arith, ints) in
    let is_high : val u s ≡ negsuc 9223372036854775806 +ℤ pos 1 *ℤ val v s = val-add_scaled (form_value [] (negsuc 9223372036854775806)) (pos 1) v u s eu ∙ omega (arith, ints) in
    ap (λ c. all_true c s) (sym k.2)
    ∙ and_shift (int_le (val l s) (pos 0)) (int_le (val u s) (pos 0)) (all_true k.0 s)
    ∙ ap₂ ◌&&◌ (in_i64 (val v s) (val l s) (val u s) is_low is_high) (ranges_said vs k.0 s k.1)))

pub fits_said : (body : List Simple) (b : Formula) (s : List ℤ) → fits body ≡ Some b → truth b s ≡ all_fit body s
fits_said body b s e =
    option_and_then_some (λ vs. option_map And (ranges vs)) (values body) b e
    (λ vs p q.
    let k = mapped And (ranges vs) b q in
    ap (λ c. truth c s) (sym k.2)
    ∙ ranges_said vs k.0 s k.1
    ∙ ap (list_all fits_i64) (values_said body vs s p)
    ∙ sym (all_fit_said body s))
