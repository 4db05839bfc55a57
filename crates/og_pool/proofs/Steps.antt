-- Each step of the draw word keeps the rule.
use Rattle.std.proofs.Common.{◌≡◌, ◌≢◌, ◌⊎◌, ℕ, zero, suc, ◌+◌, ◌-◌, ◌%◌, ◌^◌, ◌<◌, ◌≤◌, Bool, true, false, leb, eqb, List, [], ◌∷◌, ◌++◌, set, get_or, refl, sym, ap, inl, inr, ◌↔◌, true≢false, ◌∙◌, subst, ⊎_elim, arith, length-set, get_or-set_same, mod-eq_of_lt, if◌then◌else◌, ◌==◌, nat_le}
use Rattle.std.proofs.lemmas.Bool.Decides.{leb_tells, eqb_tells, nat_tests}
use mathlib.Core.Option.{some, none, some-ne-none, some-injective}
use lib.ListN.{get_elem?}
use Rattle.atomic_table.specs.Table.{State, Me, step, keeps, Allows, Splits, Joins, Final, Seen}
use Rattle.atomic_table.proofs.Lists.{at_set, at_snoc}
use Rattle.og_pool.specs.declared.rule.Hand.{Hand}
use Rattle.og_pool.specs.declared.rule.Plan.{Plan}
use Rattle.og_pool.specs.Drawing.{weigh, times, past, once_below, total, hand, EachOnce, Draws}

pub weigh-append : (h : ℕ → ℕ) (xs ys : List ℕ) → weigh h (xs ++ ys) ≡ weigh h xs + weigh h ys
weigh-append h [] ys = omega arith
weigh-append h (x ∷ xs) ys = omega (arith, weigh-append h xs ys)

total-append : (f : Hand → ℕ) (xs ys : List Hand) → total f (xs ++ ys) ≡ total f xs + total f ys
total-append f [] ys = omega arith
total-append f (x ∷ xs) ys = omega (arith, total-append f xs ys)

total_set : (f : Hand → ℕ) (views : List Hand) (i : ℕ) (v w : Hand) → get_elem? views i ≡ some v → total f (set views i w) + f v ≡ total f views + f w
total_set f [] i v w e = absurd (some-ne-none v (sym e))
total_set f (x ∷ xs) zero v w e = let same = ap f (some-injective x v e) in omega arith
total_set f (x ∷ xs) (suc i) v w e = omega (arith, total_set f xs i v w e)

total_add : (f g : Hand → ℕ) (views : List Hand) → total (λ v. f v + g v) views ≡ total f views + total g views
total_add f g [] = refl
total_add f g (x ∷ xs) = omega (arith, total_add f g xs)

total_le : (f g : Hand → ℕ) (views : List Hand) → ((i : ℕ) (v : Hand) → get_elem? views i ≡ some v → f v ≤ g v) → total f views ≤ total g views
total_le f g [] each = omega arith
total_le f g (x ∷ xs) each = omega (arith, each 0 x refl, total_le f g xs (λ i v e. each (suc i) v e))

total_ge : (f : Hand → ℕ) (views : List Hand) (i : ℕ) (v : Hand) → get_elem? views i ≡ some v → f v ≤ total f views
total_ge f [] i v e = absurd (some-ne-none v (sym e))
total_ge f (x ∷ xs) zero v e = let same = ap f (some-injective x v e) in omega arith
total_ge f (x ∷ xs) (suc i) v e = omega (arith, total_ge f xs i v e)

reached : (x w : ℕ) → 0 < once_below x w → x < w
reached x w h = grind (arith, nat_tests)

total_none : (f g : Hand → ℕ) (views : List Hand) → total g views ≡ 0 → ((i : ℕ) (v : Hand) → get_elem? views i ≡ some v → g v ≡ 0 → f v ≡ 0) → total f views ≡ 0
total_none f g [] e each = refl
total_none f g (x ∷ xs) e each = let first : f x ≡ 0 = each 0 x refl (omega arith) in let others = total_none f g xs (omega arith) (λ i v h. each (suc i) v h) in omega arith

-- the numbers from n on, m of them, as often as they stand in the list
abbrev between : ℕ → ℕ → List ℕ → ℕ
between n zero xs = 0
between n (suc m) xs = between n m xs + times (n + m) xs

between-cons : (n m y : ℕ) (xs : List ℕ) → between n m (y ∷ xs) ≡ between n m (y ∷ []) + between n m xs
between-cons n zero y xs = refl
between-cons n (suc m) y xs = omega (arith, between-cons n m y xs)

between_none : (n m y : ℕ) → (y < n) ⊎ (n + m ≤ y) → between n m (y ∷ []) ≡ 0
between_none n zero y h = refl
between_none n (suc m) y h =
    let rest = between_none n m y (⊎_elim (λ a. inl a) (λ (b : n + suc m ≤ y). inr (omega arith)) h) in
    let apart : y ≢ n + m = λ e. ⊎_elim (λ (a : y < n). omega arith) (λ (b : n + suc m ≤ y). omega arith) h in
    grind (arith, nat_tests)

between_once : (n m y : ℕ) → between n m (y ∷ []) ≤ 1
between_once n zero y = omega arith
between_once n (suc m) y = ⊎_elim
    (λ (h : (eqb y (n + m) ≡ true) × (y ≡ n + m)). let rest = between_none n m y (inr (omega arith)) in grind (arith, nat_tests))
    (λ (h : (eqb y (n + m) ≡ false) × (y ≢ n + m)). let rest = between_once n m y in grind (arith, nat_tests))
    (eqb_tells y (n + m))

between_past : (n m : ℕ) (xs : List ℕ) → between n m xs ≤ past n xs
between_past n m [] = nothing m
  where
    nothing : (m : ℕ) → between n m [] ≤ 0
    nothing zero = omega arith
    nothing (suc m) = omega (arith, nothing m)
between_past n m (y ∷ xs) = ⊎_elim
    (λ (h : (leb n y ≡ true) × (n ≤ y)). let one = between_once n m y in let rest = between_past n m xs in let c = between-cons n m y xs in grind (arith, nat_tests))
    (λ (h : (leb n y ≡ false) × (y < n)). let one = between_none n m y (inl h.1) in let rest = between_past n m xs in let c = between-cons n m y xs in grind (arith, nat_tests))
    (leb_tells n y)

total_between : (n m w : ℕ) (views : List Hand) → ((x : ℕ) → total (λ v. times x v.drawn) views ≡ once_below x w) → n + m ≤ w → total (λ v. between n m v.drawn) views ≡ m
total_between n zero w views once h = nothing views
  where
    nothing : (vs : List Hand) → total (λ v. 0) vs ≡ 0
    nothing [] = refl
    nothing (v ∷ vs) = omega (arith, nothing vs)
total_between n (suc m) w views once h =
    let sum = total_add (λ v. between n m v.drawn) (λ v. times (n + m) v.drawn) views in
    let rest = total_between n m w views once (omega arith) in
    let one : once_below (n + m) w ≡ 1 = let below : n + m < w = omega arith in grind (arith, nat_tests) in
    omega (arith, once (n + m))

-- the word never wraps
pub bounded : (p : Plan) (s : State (Unit {0}) Hand) → EachOnce p s → get_or s.words 0 0 ≤ p.count + p.workers
bounded p s r = ⊎_elim
    (λ (h : (leb (get_or s.words 0 0) p.count ≡ true) × (get_or s.words 0 0 ≤ p.count)). omega arith)
    (λ (h : (leb (get_or s.words 0 0) p.count ≡ false) × (p.count < get_or s.words 0 0)).
    let w : ℕ = get_or s.words 0 0 in let m : ℕ = w - p.count in
    let is = total_between p.count m w s.views r.once (omega arith) in
    let less = total_le (λ v. between p.count m v.drawn) (λ v. past p.count v.drawn) s.views (λ i v _. between_past p.count m v.drawn) in
    let few = total_le (λ v. past p.count v.drawn) (λ v. v.workers) s.views r.few in
    let all = r.workers in omega arith)
    (leb_tells (get_or s.words 0 0) p.count)

once_next : (x w : ℕ) → once_below x w + (if w == x then 1 else 0) ≡ once_below x (w + 1)
once_next x w = grind (arith, nat_tests)

pub draws_keep : (p : Plan) (slots id : ℕ) (me : Me (Unit {0}) Hand) → p.count < 2 ^ 32 → p.workers < 2 ^ 32 → past p.count me.0.drawn ≡ 0 → 0 < me.0.workers
    → Allows (EachOnce p) slots id me 0 (λ n. (n + 1) % 2 ^ 64) (Draws (step slots 0 1 0 none) me)
draws_keep p slots id me few_tasks few_workers none_past some_worker s r wide at small =
    let w : ℕ = get_or s.words 0 0 in
    let v : Hand = hand me.0.workers (me.0.drawn ++ w ∷ []) in
    let one_word = r.one_word in
    let bound = bounded p s r in
    let next : (w + 1) % 2 ^ 64 ≡ w + 1 = mod-eq_of_lt (omega arith) in
    let word : get_or (set s.words 0 ((w + 1) % 2 ^ 64)) 0 0 ≡ w + 1 = get_or-set_same s.words 0 ((w + 1) % 2 ^ 64) 0 (omega arith) ∙ next in (
      v,
      keeps,
      tt,
      record {
        one_word = length-set s.words 0 ((w + 1) % 2 ^ 64) ∙ one_word;
        workers = let t = total_set (λ u. u.workers) s.views id me.0 v at in omega (arith, r.workers);
        once = λ x.
            let t = total_set (λ u. times x u.drawn) s.views id me.0 v at in
            omega (arith, weigh-append (λ y. if y == x then 1 else 0) me.0.drawn (w ∷ []), r.once x, once_next x w, ap (once_below x) word);
        few = λ j u e. ⊎_elim
            (λ (t : (j ≡ id) × (v ≡ u)). subst (λ (z : Hand). past p.count z.drawn ≤ z.workers) t.1 (one_more none_past some_worker w))
            (λ (t : (j ≢ id) × (get_elem? s.views j ≡ some u)). r.few j u t.1)
            (at_set s.views id j v u e);
        spent = λ j u e. ⊎_elim
            (λ (t : (j ≡ id) × (v ≡ u)). λ (z : u.workers ≡ 0). let same = ap (λ (h : Hand). h.workers) t.1 in absurd (omega arith))
            (λ (t : (j ≢ id) × (get_elem? s.views j ≡ some u)). r.spent j u t.1)
            (at_set s.views id j v u e);
      },
      (refl, refl, λ x mine. let some = total_ge (λ u. times x u.drawn) s.views id me.0 at in let once = r.once x in reached x w (omega arith)),
    )
  where
    one_more : past p.count me.0.drawn ≡ 0 → 0 < me.0.workers → (w : ℕ) → past p.count (me.0.drawn ++ w ∷ []) ≤ me.0.workers
    one_more none_past some_worker w = let a = weigh-append (λ y. if nat_le p.count y then 1 else 0) me.0.drawn (w ∷ []) in grind (arith, nat_tests)

-- a few of the workers are handed on
pub splits_keep : (p : Plan) (id : ℕ) (v : Hand) (few : ℕ) → few ≤ v.workers → v.drawn ≡ [] → Splits (EachOnce p) id v (hand (v.workers - few) v.drawn) (hand few [])
splits_keep p id v few within fresh s r at =
    let l : Hand = hand (v.workers - few) v.drawn in
    let g : Hand = hand few [] in record {
      one_word = r.one_word;
      workers = let t = total_set (λ u. u.workers) s.views id v l at in let a = total-append (λ u. u.workers) (set s.views id l) (g ∷ []) in omega (arith, r.workers);
      once = λ x. let t = total_set (λ u. times x u.drawn) s.views id v l at in let a = total-append (λ u. times x u.drawn) (set s.views id l) (g ∷ []) in omega (arith, r.once x);
      few = λ j u e. ⊎_elim
          (λ (b : get_elem? (set s.views id l) j ≡ some u). ⊎_elim
          (λ (t : (j ≡ id) × (l ≡ u)). subst (λ (z : Hand). past p.count z.drawn ≤ z.workers) t.1 (subst (λ (xs : List ℕ). past p.count xs ≤ v.workers - few) (sym fresh) (omega arith)))
          (λ (t : (j ≢ id) × (get_elem? s.views j ≡ some u)). r.few j u t.1)
          (at_set s.views id j l u b))
          (λ (b : g ≡ u). subst (λ (z : Hand). past p.count z.drawn ≤ z.workers) b (omega arith))
          (at_snoc (set s.views id l) g u j e);
      spent = λ j u e. ⊎_elim
          (λ (b : get_elem? (set s.views id l) j ≡ some u). ⊎_elim
          (λ (t : (j ≡ id) × (l ≡ u)). λ (_ : u.workers ≡ 0). ap (λ (h : Hand). h.drawn) (sym t.1) ∙ fresh)
          (λ (t : (j ≢ id) × (get_elem? s.views j ≡ some u)). r.spent j u t.1)
          (at_set s.views id j l u b))
          (λ (b : g ≡ u). λ (_ : u.workers ≡ 0). ap (λ (h : Hand). h.drawn) (sym b))
          (at_snoc (set s.views id l) g u j e);
    }

pub joins_keep : (p : Plan) (id : ℕ) (v : Hand) (other : ℕ) (w : Hand) → 0 < v.workers → Joins (EachOnce p) id v other w (hand (v.workers + w.workers) (v.drawn ++ w.drawn)) (hand 0 [])
joins_keep p id v other w some_worker s r at apart there =
    let b : Hand = hand (v.workers + w.workers) (v.drawn ++ w.drawn) in
    let z : Hand = hand 0 [] in
    let vs : List Hand = set s.views id b in
    let before : get_elem? s.views other ≡ some w = ⊎_elim (λ (t : (other ≡ id) × (b ≡ w)). absurd (apart t.0)) (λ (t : (other ≢ id) × (get_elem? s.views other ≡ some w)). t.1) (at_set s.views id other b w there) in
    let mine = r.few id v at in
    let theirs = r.few other w before in
    let joined : past p.count (v.drawn ++ w.drawn) ≤ v.workers + w.workers = omega (arith, weigh-append (λ y. if nat_le p.count y then 1 else 0) v.drawn w.drawn) in record {
      one_word = r.one_word;
      workers = let t = total_set (λ u. u.workers) s.views id v b at in let a = total_set (λ u. u.workers) vs other w z there in omega (arith, r.workers);
      once = λ x. let t = total_set (λ u. times x u.drawn) s.views id v b at in let a = total_set (λ u. times x u.drawn) vs other w z there in omega (arith, r.once x, weigh-append (λ y. if y == x then 1 else 0) v.drawn w.drawn);
      few = λ j u e. ⊎_elim
          (λ (t : (j ≡ other) × (z ≡ u)). subst (λ (y : Hand). past p.count y.drawn ≤ y.workers) t.1 (omega arith))
          (λ (t : (j ≢ other) × (get_elem? vs j ≡ some u)). ⊎_elim
          (λ (q : (j ≡ id) × (b ≡ u)). subst (λ (y : Hand). past p.count y.drawn ≤ y.workers) q.1 joined)
          (λ (q : (j ≢ id) × (get_elem? s.views j ≡ some u)). r.few j u q.1)
          (at_set s.views id j b u t.1))
          (at_set vs other j z u e);
      spent = λ j u e. ⊎_elim
          (λ (t : (j ≡ other) × (z ≡ u)). λ (_ : u.workers ≡ 0). ap (λ (h : Hand). h.drawn) (sym t.1))
          (λ (t : (j ≢ other) × (get_elem? vs j ≡ some u)). ⊎_elim
          (λ (q : (j ≡ id) × (b ≡ u)). λ (no : u.workers ≡ 0). let same = ap (λ (h : Hand). h.workers) q.1 in absurd (omega arith))
          (λ (q : (j ≢ id) × (get_elem? s.views j ≡ some u)). r.spent j u q.1)
          (at_set s.views id j b u t.1))
          (at_set vs other j z u e);
    }

past_some : (n : ℕ) (xs : List ℕ) → 0 < past n xs → (y : ℕ) × (n ≤ y) × (0 < times y xs)
past_some n [] h = absurd (omega arith)
past_some n (x ∷ xs) h = ⊎_elim
    (λ (t : (leb n x ≡ true) × (n ≤ x)). (x, t.1, grind (arith, nat_tests)))
    (λ (t : (leb n x ≡ false) × (x < n)). let more : 0 < past n xs = grind (arith, nat_tests) in let rest = past_some n xs more in let there = rest.2 in (rest.0, rest.1, omega arith))
    (leb_tells n x)

-- one view stands for all workers, so it holds all numbers
alone : (p : Plan) (s : State (Unit {0}) Hand) (id : ℕ) (v : Hand) → EachOnce p s → get_elem? s.views id ≡ some v → v.workers ≡ p.workers → (x : ℕ) → times x v.drawn ≡ once_below x (get_or s.words 0 0)
alone p s id v r at all x =
    let z : Hand = hand 0 [] in
    let t = total_set (λ u. u.workers) s.views id v z at in
    let a = total_set (λ u. times x u.drawn) s.views id v z at in
    let others : total (λ u. times x u.drawn) (set s.views id z) ≡ 0 = total_none (λ u. times x u.drawn) (λ u. u.workers) (set s.views id z) (omega (arith, r.workers))
    (λ j u e no. ⊎_elim
    (λ (q : (j ≡ id) × (z ≡ u)). ap (λ (h : Hand). times x h.drawn) (sym q.1))
    (λ (q : (j ≢ id) × (get_elem? s.views j ≡ some u)). ap (times x) (r.spent j u q.1 no))
    (at_set s.views id j z u e)) in
    omega (arith, r.once x)

pub closes : (p : Plan) (id : ℕ) (v : Hand) (ws : List ℕ) (xs : List (Unit {0})) → Final (Seen (EachOnce p) id v) ws xs → v.workers ≡ p.workers → 0 < past p.count v.drawn → (x : ℕ) → x < p.count → times x v.drawn ≡ 1
closes p id v ws xs final all some_past x below =
    let s = final.0 in
    let r = final.1.0 in
    let at = final.1.1 in
    let y = past_some p.count v.drawn some_past in
    let far = alone p s id v r at all y.0 in
    let here = alone p s id v r at all x in
    let n : ℕ = y.0 in let more : p.count ≤ n = y.1 in let drawn = y.2 in
    let reached : n < get_or s.words 0 0 = grind (arith, nat_tests) in
    let word : x < get_or s.words 0 0 = omega arith in
    grind (arith, nat_tests)

pub none_yet : (d : Bool) (n : ℕ) → d ≡ false → (0 < n → d ≡ true) → n ≡ 0
none_yet true n e h = absurd (true≢false e)
none_yet false zero e h = refl
none_yet false (suc n) e h = absurd (true≢false (sym (h (omega arith))))

-- one number more
pub past_more : (n : ℕ) (xs ys : List ℕ) (w : ℕ) → ys ≡ xs ++ w ∷ [] → past n xs ≡ 0 → ((w < n) × (past n ys ≡ 0)) ⊎ ((n ≤ w) × (past n ys ≡ 1))
past_more n xs ys w is none_past =
    let same = ap (past n) is in let a = weigh-append (λ y. if nat_le n y then 1 else 0) xs (w ∷ []) in ⊎_elim
    (λ (t : (leb n w ≡ true) × (n ≤ w)). inr (t.1, grind (arith, nat_tests)))
    (λ (t : (leb n w ≡ false) × (w < n)). inl (t.1, grind (arith, nat_tests)))
    (leb_tells n w)

pub still_none : (n : ℕ) (xs ys : List ℕ) (w : ℕ) (d : Bool) → ys ≡ xs ++ w ∷ [] → d ≡ false → (0 < past n xs → d ≡ true) → w < n → past n ys ≡ 0
still_none n xs ys w d is e h less = ⊎_elim (λ (t : (w < n) × (past n ys ≡ 0)). t.1) (λ (t : (n ≤ w) × (past n ys ≡ 1)). absurd (omega arith)) (past_more n xs ys w is (none_yet d (past n xs) e h))

pub now_some : (n : ℕ) (xs ys : List ℕ) (w : ℕ) (d : Bool) → ys ≡ xs ++ w ∷ [] → d ≡ false → (0 < past n xs → d ≡ true) → n ≤ w → 0 < past n ys
now_some n xs ys w d is e h more = ⊎_elim (λ (t : (w < n) × (past n ys ≡ 0)). absurd (omega arith)) (λ (t : (n ≤ w) × (past n ys ≡ 1)). omega arith) (past_more n xs ys w is (none_yet d (past n xs) e h))

pub either_past : (n : ℕ) (xs ys zs : List ℕ) (a b d : Bool) → zs ≡ xs ++ ys → (a ≡ true) ↔ (0 < past n xs) → (b ≡ true) ↔ (0 < past n ys)
    → ((a ≡ true) × (d ≡ true)) ⊎ ((a ≡ false) × (d ≡ b)) → (d ≡ true) ↔ (0 < past n zs)
either_past n xs ys zs a b d is f g cases =
    let same = ap (past n) is in let sum = weigh-append (λ y. if nat_le n y then 1 else 0) xs ys in ⊎_elim
    (λ (t : (a ≡ true) × (d ≡ true)). ((λ _. let some = f.0 t.0 in omega arith), (λ _. t.1)))
    (λ (t : (a ≡ false) × (d ≡ b)). let none = none_yet a (past n xs) t.0 f.1 in
    ((λ e. let some = g.0 (sym t.1 ∙ e) in omega arith), (λ (h : 0 < past n zs). t.1 ∙ g.1 (omega arith))))
    cases

pub times_far : (x n w : ℕ) (xs ys : List ℕ) → ys ≡ xs ++ w ∷ [] → n ≤ w → x < n → times x ys ≡ times x xs
times_far x n w xs ys is far near =
    let a = weigh-append (λ y. if y == x then 1 else 0) xs (w ∷ []) in let same = ap (times x) is in
    let none : times x (w ∷ []) ≡ 0 = let apart : x < w = omega arith in grind (arith, nat_tests) in omega arith
