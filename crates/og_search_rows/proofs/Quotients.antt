-- Quotients of whole numbers.
use Rattle.std.proofs.Common.{◌≡◌, ◌<◌, ℤ, pos, negsuc, neg_ℤ, ◌+ℤ◌, ◌*ℤ◌, Option, Some, None, IfSome, SomeIff, ap, ap₂, ◌∙◌, subst, sym, arith}
use Rattle.std.specs.Prelude.{◌≤ℤ◌, ◌<ℤ◌}
use Rattle.std.specs.Int.{int_div_euclid}
use Rattle.std.proofs.lemmas.Int.{ints}

-- the quotient by something positive, rounded down
pub euclid_bounds : (a d : ℤ) → pos 0 <ℤ d → ((int_div_euclid a d *ℤ d) ≤ℤ a) × (a <ℤ (int_div_euclid a d *ℤ d +ℤ d))
euclid_bounds (pos n) (pos m) h =
    let positive : 0 < m = omega (arith, ints) in
    (omega (arith, ints), omega (arith, ints))
euclid_bounds (negsuc n) (pos m) h =
    let positive : 0 < m = omega (arith, ints) in
    (omega (arith, ints), omega (arith, ints))
euclid_bounds a (negsuc m) h = absurd (omega (arith, ints))

-- what a division gives
pub floor_of : (q a d x y : ℤ) → x ≡ a → y ≡ d → pos 0 <ℤ d → q ≡ int_div_euclid x y → ((q *ℤ d) ≤ℤ a) × (a <ℤ (q *ℤ d +ℤ d))
floor_of q a d x y e f h s =
    let is : q ≡ int_div_euclid a d = s ∙ ap₂ int_div_euclid e f in
    subst (λ q. ((q *ℤ d) ≤ℤ a) × (a <ℤ (q *ℤ d +ℤ d))) (sym is) (euclid_bounds a d h)

opposite_product : (f d : ℤ) → neg_ℤ f *ℤ d ≡ neg_ℤ (f *ℤ d)
opposite_product f d = grind (arith, ints)

-- the opposite of the quotient of the opposite, rounded down, is the quotient rounded up
pub ceiling : (a d n f q : ℤ) → n ≡ neg_ℤ a → q ≡ neg_ℤ f → (f *ℤ d) ≤ℤ n → n <ℤ (f *ℤ d +ℤ d) → (a ≤ℤ (q *ℤ d)) × ((q *ℤ d) <ℤ (a +ℤ d))
ceiling a d n f q e g below above =
    let opposite : q *ℤ d ≡ neg_ℤ (f *ℤ d) = rw g (opposite_product f d) in
    (omega (arith, ints), omega (arith, ints))

-- the same of a checked opposite
pub ceiling_of : (r : Option ℤ) (P : Type 0) (a d n f u : ℤ) → n ≡ neg_ℤ a → u ≡ f → (f *ℤ d) ≤ℤ n → n <ℤ (f *ℤ d +ℤ d) → SomeIff r P (neg_ℤ u) → IfSome r (λ q. (a ≤ℤ (q *ℤ d)) × ((q *ℤ d) <ℤ (a +ℤ d)))
ceiling_of None P a d n f u e g below above s = tt
ceiling_of (Some q) P a d n f u e g below above s = ceiling a d n f q e (s.1 ∙ ap neg_ℤ g) below above
