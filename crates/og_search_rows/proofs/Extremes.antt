-- The value of an inequality at a model, and its least and greatest values within bounds.
use Rattle.std.proofs.Common.{◌≡◌, ℕ, ◌+◌, ◌<◌, ◌≤◌, ℤ, pos, ◌+ℤ◌, ◌*ℤ◌, Bool, true, false, List, drop, length, get_or, refl, arith}
use Rattle.std.specs.Prelude.{◌≤ℤ◌, int_lt, if◌then◌else◌}
use Rattle.std.proofs.lemmas.Int.{ints}
use Rattle.og_linear.specs.Linear.{value_at}
use Rattle.og_search_rows.specs.declared.inequality.Term.{Term}
use Rattle.og_search_rows.specs.declared.bounds.Interval.{Interval}
use Rattle.og_search_rows.specs.declared.bounds.Side.TheVariants.{Lower, Upper}
use Rattle.og_search_rows.specs.Inequality.{sum_at}
use Rattle.og_search_rows.specs.Bounds.{bound_at, Within}
use Rattle.og_search_rows.proofs.Sums.{sum_at-drop, sum_at-drop_all}
use Rattle.og_search_rows.proofs.Limits.{mul_up, mul_down}

pub value_turn : (ts : List Term) (s : List ℤ) (i : ℕ) (d : Term) (old part new total : ℤ) → i < length ts → part ≡ (get_or ts i d).coefficient *ℤ value_at s (get_or ts i d).var → new ≡ old +ℤ part → old +ℤ sum_at (drop i ts) s ≡ total → new +ℤ sum_at (drop (i + 1) ts) s ≡ total
value_turn ts s i d old part new total h is put inv =
    let whole = sum_at-drop ts s i d h in
    omega (arith, ints, whole, is, put, inv)

pub value_end : (ts : List Term) (s : List ℤ) (i : ℕ) (new c whole : ℤ) → length ts ≤ i → new +ℤ sum_at (drop i ts) s ≡ c +ℤ whole → new ≡ whole +ℤ c
value_end ts s i new c whole h inv =
    let none = sum_at-drop_all ts s i h in
    omega (arith, ints, none, inv)

pub least_turn : (ts : List Term) (s : List ℤ) (i : ℕ) (d : Term) (old part new total : ℤ) → i < length ts → part ≤ℤ ((get_or ts i d).coefficient *ℤ value_at s (get_or ts i d).var) → new ≡ old +ℤ part → (old +ℤ sum_at (drop i ts) s) ≤ℤ total → (new +ℤ sum_at (drop (i + 1) ts) s) ≤ℤ total
least_turn ts s i d old part new total h is put inv =
    let whole = sum_at-drop ts s i d h in
    omega (arith, ints, whole, is, put, inv)

pub least_end : (ts : List Term) (s : List ℤ) (i : ℕ) (new c whole : ℤ) → length ts ≤ i → (new +ℤ sum_at (drop i ts) s) ≤ℤ (c +ℤ whole) → new ≤ℤ (whole +ℤ c)
least_end ts s i new c whole h inv =
    let none = sum_at-drop_all ts s i h in
    omega (arith, ints, none, inv)

pub greatest_turn : (ts : List Term) (s : List ℤ) (i : ℕ) (d : Term) (old part new total : ℤ) → i < length ts → ((get_or ts i d).coefficient *ℤ value_at s (get_or ts i d).var) ≤ℤ part → new ≡ old +ℤ part → total ≤ℤ (old +ℤ sum_at (drop i ts) s) → total ≤ℤ (new +ℤ sum_at (drop (i + 1) ts) s)
greatest_turn ts s i d old part new total h is put inv =
    let whole = sum_at-drop ts s i d h in
    omega (arith, ints, whole, is, put, inv)

pub greatest_end : (ts : List Term) (s : List ℤ) (i : ℕ) (new c whole : ℤ) → length ts ≤ i → (c +ℤ whole) ≤ℤ (new +ℤ sum_at (drop i ts) s) → (whole +ℤ c) ≤ℤ new
greatest_end ts s i new c whole h inv =
    let none = sum_at-drop_all ts s i h in
    omega (arith, ints, none, inv)

-- a term is least at the bound on this side
pub at_least_side : (b : List Interval) (k : ℤ) (x : ℕ) (s : List ℤ) → Within b s → (k *ℤ (bound_at b x (if int_lt (pos 0) k then Lower else Upper)).value) ≤ℤ (k *ℤ value_at s x)
at_least_side b k x s w = go (int_lt (pos 0) k) refl
  where
    go : (t : Bool) → int_lt (pos 0) k ≡ t → (k *ℤ (bound_at b x (if t then Lower else Upper)).value) ≤ℤ (k *ℤ value_at s x)
    go true e = mul_up k _ _ (omega (arith, ints)) (w x).0
    go false e = mul_down k _ _ (omega (arith, ints)) (w x).1

-- and greatest at that on the other
pub at_greatest_side : (b : List Interval) (k : ℤ) (x : ℕ) (s : List ℤ) → Within b s → (k *ℤ value_at s x) ≤ℤ (k *ℤ (bound_at b x (if int_lt (pos 0) k then Upper else Lower)).value)
at_greatest_side b k x s w = go (int_lt (pos 0) k) refl
  where
    go : (t : Bool) → int_lt (pos 0) k ≡ t → (k *ℤ value_at s x) ≤ℤ (k *ℤ (bound_at b x (if t then Upper else Lower)).value)
    go true e = mul_up k _ _ (omega (arith, ints)) (w x).1
    go false e = mul_down k _ _ (omega (arith, ints)) (w x).0
