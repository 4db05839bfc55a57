-- A bound that takes the place of another.
use Rattle.std.proofs.Common.{◌≡◌, ℕ, ◌<◌, ◌≢◌, ℤ, Bool, true, false, List, length, get_or, refl, sym, subst, arith}
use Rattle.std.specs.Prelude.{◌≤ℤ◌, ◌==◌, slice_set}
use Rattle.std.proofs.lemmas.Int.{ints}
use Rattle.std.proofs.lemmas.Bool.{eqb-true, eqb-false}
use Rattle.std.proofs.lemmas.List.{get_or-set_same, get_or-set_other}
use Rattle.og_linear.specs.Linear.{value_at}
use Rattle.og_search_rows.specs.declared.bounds.Side.{Side}
use Rattle.og_search_rows.specs.declared.bounds.Side.TheVariants.{Lower, Upper}
use Rattle.og_search_rows.specs.declared.bounds.Bound.{Bound}
use Rattle.og_search_rows.specs.declared.bounds.Interval.{Interval}
use Rattle.og_search_rows.specs.Bounds.{whole, bound_at, bounded, Within, Meets, Tightens}

abbrev pub InInterval : Interval → ℤ → Type 0
InInterval i v = (i.lower.value ≤ℤ v) × (v ≤ℤ i.upper.value)

-- a value within the new bounds is within the old ones, where the interval of one variable is within its old one
within_old : (b : List Interval) (x : ℕ) (i : Interval) (s : List ℤ) → x < length b → InInterval (get_or b x whole) (value_at s x) → Within (slice_set b x i) s → Within b s
within_old b x i s h old w y = go (y == x) refl
  where
    go : (t : Bool) → (y == x) ≡ t → InInterval (get_or b y whole) (value_at s y)
    go true e = subst (λ z. InInterval (get_or b z whole) (value_at s z)) (sym (eqb-true y x e)) old
    go false e =
        let other : y ≢ x = eqb-false y x e in
        subst (λ j. InInterval j (value_at s y)) (get_or-set_other b x y i whole other) (w y)

in_new : (b : List Interval) (x : ℕ) (i : Interval) (s : List ℤ) → x < length b → Within (slice_set b x i) s → InInterval i (value_at s x)
in_new b x i s h w = subst (λ j. InInterval j (value_at s x)) (get_or-set_same b x i whole h) (w x)

pub tighter : (b : List Interval) (x : ℕ) (side : Side) (new : Bound) (s : List ℤ) → x < length b → Tightens side new.value (bound_at b x side).value → Within (slice_set b x (bounded side new (get_or b x whole))) s → Within b s × Meets side new.value (value_at s x)
tighter b x Lower new s h t w =
    let here = in_new b x (bounded Lower new (get_or b x whole)) s h w in
    (within_old b x _ s h (omega (arith, ints, here.0, t), here.1) w, here.0)
tighter b x Upper new s h t w =
    let here = in_new b x (bounded Upper new (get_or b x whole)) s h w in
    (within_old b x _ s h (here.0, omega (arith, ints, here.1, t)) w, here.1)
