-- Products and the order of whole numbers.
use Rattle.std.proofs.Common.{◌≡◌, zero, suc, ◌*◌, ℤ, pos, negsuc, ◌+ℤ◌, ◌-ℤ◌, ◌*ℤ◌, Bool, true, false, refl, sym, ap, ◌∙◌, arith}
use Rattle.std.specs.Prelude.{◌≤ℤ◌, ◌<ℤ◌, ◌↔◌, int_lt}
use Rattle.std.proofs.lemmas.Int.{ints}
use Rattle.std.proofs.Math.IntN.{*ℤ_comm}
use Rattle.og_linear.proofs.Ring.{mul-add, add-mul}

-- a multiple that is not negative keeps the order
pub mul_up : (k a b : ℤ) → pos 0 ≤ℤ k → a ≤ℤ b → (k *ℤ a) ≤ℤ (k *ℤ b)
mul_up (negsuc n) a b h l = absurd (omega (arith, ints))
mul_up (pos n) a b h l = go (b -ℤ a) (omega (arith, ints))
  where
    go : (d : ℤ) → b ≡ a +ℤ d → (pos n *ℤ a) ≤ℤ (pos n *ℤ b)
    go (negsuc m) e = absurd (omega (arith, ints))
    go (pos m) e =
        let more : pos n *ℤ b ≡ pos n *ℤ a +ℤ pos (n * m) = ap (λ z. pos n *ℤ z) e ∙ mul-add (pos n) a (pos m) in
        omega (arith, ints, more)

-- one that is not positive turns it
pub mul_down : (k a b : ℤ) → k ≤ℤ pos 0 → a ≤ℤ b → (k *ℤ b) ≤ℤ (k *ℤ a)
mul_down k a b h l =
    let up = mul_up (pos 0 -ℤ k) a b (omega (arith, ints)) l in
    let none : (pos 0 -ℤ k) +ℤ k ≡ pos 0 = omega (arith, ints) in
    let zero_a : (pos 0 -ℤ k) *ℤ a +ℤ k *ℤ a ≡ pos 0 *ℤ a = sym (add-mul a (pos 0 -ℤ k) k) ∙ ap (λ z. z *ℤ a) none in
    let zero_b : (pos 0 -ℤ k) *ℤ b +ℤ k *ℤ b ≡ pos 0 *ℤ b = sym (add-mul b (pos 0 -ℤ k) k) ∙ ap (λ z. z *ℤ b) none in
    omega (arith, ints, up, zero_a, zero_b)

by_order : {P : Type 0} (a b : ℤ) → (a ≤ℤ b → P) → (b <ℤ a → P) → P
by_order {P} a b below above = go (int_lt b a) refl
  where
    go : (t : Bool) → int_lt b a ≡ t → P
    go true e = above (omega (arith, ints))
    go false e = below (omega (arith, ints))

-- a bound from above, by the quotient rounded down
pub upper_limit : (k r q x : ℤ) → pos 0 <ℤ k → (q *ℤ k) ≤ℤ (pos 0 -ℤ r) → (pos 0 -ℤ r) <ℤ (q *ℤ k +ℤ k) → ((k *ℤ x +ℤ r) ≤ℤ pos 0) ↔ (x ≤ℤ q)
upper_limit k r q x positive low high =
    let turned = *ℤ_comm q k in (
      (λ h. by_order x q (λ l. l) (λ l.
          let up = mul_up k (q +ℤ pos 1) x (omega (arith, ints)) (omega (arith, ints)) in
          let more = mul-add k q (pos 1) in
          let one : k *ℤ pos 1 ≡ k = omega (arith, ints) in
          absurd (omega (arith, ints, up, more, one, turned, low, high, h)))),
      (λ h.
          let up = mul_up k x q (omega (arith, ints)) h in
          omega (arith, ints, up, turned, low)),
    )

-- a bound from below, by the quotient rounded up
pub lower_limit : (k o r q x : ℤ) → o +ℤ k ≡ pos 0 → pos 0 <ℤ o → r ≤ℤ (q *ℤ o) → (q *ℤ o) <ℤ (r +ℤ o) → ((k *ℤ x +ℤ r) ≤ℤ pos 0) ↔ (q ≤ℤ x)
lower_limit k o r q x none positive low high =
    let turned = *ℤ_comm q o in
    let opposite : o *ℤ x +ℤ k *ℤ x ≡ pos 0 *ℤ x = sym (add-mul x o k) ∙ ap (λ z. z *ℤ x) none in (
      (λ h. by_order q x (λ l. l) (λ l.
          let up = mul_up o (x +ℤ pos 1) q (omega (arith, ints)) (omega (arith, ints)) in
          let more = mul-add o x (pos 1) in
          let one : o *ℤ pos 1 ≡ o = omega (arith, ints) in
          absurd (omega (arith, ints, up, more, one, turned, opposite, low, high, h)))),
      (λ h.
          let up = mul_up o q x (omega (arith, ints)) h in
          omega (arith, ints, up, turned, opposite, low)),
    )

-- a number that is not below 0 and not 0 is above it
pub above_zero : (z : ℤ) → pos 0 ≤ℤ z → (z ≡ pos 0 → ⊥) → pos 0 <ℤ z
above_zero (pos zero) h n = absurd (n refl)
above_zero (pos (suc m)) h n = omega (arith, ints)
above_zero (negsuc m) h n = absurd (omega (arith, ints))

-- a cut: divided by d, and the constant rounded up
pub cut_limit : (d whole part c q : ℤ) → pos 0 <ℤ d → whole ≡ d *ℤ part → c ≤ℤ (q *ℤ d) → (q *ℤ d) <ℤ (c +ℤ d) → ((part +ℤ q) ≤ℤ pos 0) ↔ ((whole +ℤ c) ≤ℤ pos 0)
cut_limit d whole part c q positive is low high =
    let turned = *ℤ_comm q d in
    let both = mul-add d part q in (
      (λ h.
          let up = mul_up d (part +ℤ q) (pos 0) (omega (arith, ints)) h in
          let none : d *ℤ pos 0 ≡ pos 0 = omega (arith, ints) in
          omega (arith, ints, up, none, both, turned, is, low)),
      (λ h. by_order (part +ℤ q) (pos 0) (λ l. l) (λ l.
          let up = mul_up d (pos 1) (part +ℤ q) (omega (arith, ints)) (omega (arith, ints)) in
          let one : d *ℤ pos 1 ≡ d = omega (arith, ints) in
          absurd (omega (arith, ints, up, one, both, turned, is, high, h)))),
    )
