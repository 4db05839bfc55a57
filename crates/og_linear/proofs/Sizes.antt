-- How large products and sums get.
use Rattle.std.proofs.Common.{◌≡◌, ℕ, ◌+◌, ◌*◌, ◌≤◌, ◌<◌, ◌^◌, ℤ, pos, negsuc, ◌+ℤ◌, ◌*ℤ◌, List, length, drop, get_or, FitsSigned, arith, ap}
use mir.Syntax.{w64, w128}
use Rattle.std.specs.Prelude.{nat_abs}
use Rattle.std.proofs.Math.Nat.{mul-le-mul}
use Rattle.std.proofs.lemmas.Int.{ints, unsigned_abs-mul, fits_signed_from_abs}
use Rattle.og_linear.specs.Linear.{Terms, value_at, val_terms}
use Rattle.og_linear.proofs.Steps.{drop_at}

abs_small : (v : ℤ) → FitsSigned w64 v → nat_abs v ≤ 2 ^ 63
abs_small (pos n) f = omega (arith, f.sfits)
abs_small (negsuc n) f = omega (arith, f.sfits)

pub product_small : (c v : ℤ) → nat_abs c ≤ 2 ^ 31 → FitsSigned w64 v → nat_abs (c *ℤ v) ≤ 2 ^ 94
product_small c v h f =
    let e = unsigned_abs-mul c v in
    let both : nat_abs c * nat_abs v ≤ 2 ^ 31 * 2 ^ 63 = mul-le-mul h (abs_small v f) in
    omega (arith, e, both)

pub product_fits : (c v : ℤ) → nat_abs c ≤ 2 ^ 31 → FitsSigned w64 v → FitsSigned w128 (c *ℤ v)
product_fits c v h f = let small = product_small c v h f in fits_signed_from_abs w128 (c *ℤ v) (omega (arith, small))

pub sum_small : (a b : ℤ) → nat_abs (a +ℤ b) ≤ nat_abs a + nat_abs b
sum_small (pos m) (pos n) = omega (arith, ints)
sum_small (pos m) (negsuc n) = omega (arith, ints)
sum_small (negsuc m) (pos n) = omega (arith, ints)
sum_small (negsuc m) (negsuc n) = omega (arith, ints)

-- ---- the loop over the terms of a value

-- one term more
pub value_turn : (sum w total : ℤ) (ts : Terms) (s : List ℤ) (i : ℕ) → i < length ts → w ≡ (get_or ts i (0, pos 0)).1 *ℤ value_at s (get_or ts i (0, pos 0)).0 → sum +ℤ val_terms (drop i ts) s ≡ total → (sum +ℤ w) +ℤ val_terms (drop (i + 1) ts) s ≡ total
value_turn sum w total ts s i h is inv =
    let t = get_or ts i (0, pos 0) in
    let front : val_terms (drop i ts) s ≡ t.1 *ℤ value_at s t.0 +ℤ val_terms (drop (i + 1) ts) s = ap (λ us. val_terms us s) (drop_at ts i h) in
    omega (arith, ints, is, inv, front)

-- a sum of few small numbers
pub sum_stays : (sum w : ℤ) (i : ℕ) → nat_abs sum ≤ i * 2 ^ 94 → nat_abs w ≤ 2 ^ 94 → nat_abs (sum +ℤ w) ≤ (i + 1) * 2 ^ 94
sum_stays sum w i h k = omega (arith, sum_small sum w, h, k)

pub sum_fits : (z : ℤ) (i : ℕ) → nat_abs z ≤ i * 2 ^ 94 → i ≤ 256 → FitsSigned w128 z
sum_fits z i h k = fits_signed_from_abs w128 z (omega (arith, h, k))
