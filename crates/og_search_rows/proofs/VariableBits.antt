-- The bits of a set of variables.
use Rattle.std.proofs.Common.{◌≡◌, ◌≢◌, ℕ, zero, suc, ◌*◌, ◌%◌, ◌^◌, ◌<◌, Bool, true, ◌||◌, not, nat_eq, min, max, refl, sym, ap, ◌∙◌, arith, inl, inr}
use Rattle.std.specs.Int.{bit_at, trailing_zeros}
use Rattle.std.specs.Int.Bits.{and_lt}
use Rattle.std.specs.Prelude.{bit_or, bit_and, IsTrue, ◌↔◌}
use Rattle.std.proofs.lemmas.Nat.Bits.{bit_at_set_same, bit_at_set_other, bit_at_and, bit_at_or, bit_at-lt, bit_at-zero, bit_at-trailing_zeros}
use Rattle.std.proofs.lemmas.Bool.{eqb-true, both_ways, not-true}
use Rattle.std.proofs.lemmas.Bool.Decides.{eqb_tells}
use mir.Syntax.{w64}

abbrev is_in : ℕ → ℕ → Bool
is_in bits x = nat_eq (bit_at bits (x % 64)) 1

-- ---- one variable

module _ (v x : ℕ) where
  abbrev one : ℕ
  one = 1 * 2 ^ (v % 64) % 18446744073709551616

  pub one_has : is_in one x ≡ nat_eq (x % 64) (v % 64)
  one_has = elim (eqb_tells (x % 64) (v % 64)) [
    | inl p ↦
        let with : bit_at (bit_or 0 one) (v % 64) ≡ 1 = bit_at_set_same w64 0 (v % 64) (omega arith) in
        let here : bit_at one (v % 64) ≡ 1 = omega (arith, with, bit_at_or 0 one (v % 64), bit_at-zero (v % 64)) in
        ap (λ i. nat_eq (bit_at one i) 1) p.1 ∙ ap (λ b. nat_eq b 1) here ∙ sym p.0
    | inr p ↦
        let with : bit_at (bit_or 0 one) (x % 64) ≡ bit_at 0 (x % 64) = bit_at_set_other w64 0 (v % 64) (omega arith) (x % 64) p.1 in
        let here : bit_at one (x % 64) ≡ 0 = omega (arith, with, bit_at_or 0 one (x % 64), bit_at-zero (x % 64)) in
        ap (λ b. nat_eq b 1) here ∙ sym p.0
  ]

-- ---- two sets

larger : (a b : ℕ) → a < 2 → b < 2 → nat_eq (max a b) 1 ≡ (nat_eq a 1 || nat_eq b 1)
larger zero zero h l = refl
larger zero (suc zero) h l = refl
larger zero (suc (suc b)) h l = absurd (omega (arith, l))
larger (suc zero) zero h l = refl
larger (suc zero) (suc zero) h l = refl
larger (suc zero) (suc (suc b)) h l = absurd (omega (arith, l))
larger (suc (suc a)) b h l = absurd (omega (arith, h))

module _ (a b : ℕ) where
  pub union_has : (x : ℕ) → is_in (bit_or a b) x ≡ (is_in a x || is_in b x)
  union_has x =
      ap (λ n. nat_eq n 1) (bit_at_or a b (x % 64)) ∙ larger (bit_at a (x % 64)) (bit_at b (x % 64)) (bit_at-lt a (x % 64)) (bit_at-lt b (x % 64))

  pub common : bit_and a b ≢ 0 → a < 2 ^ 64 → b < 2 ^ 64 → (x : ℕ) × (is_in a x ≡ true) × (is_in b x ≡ true)
  common ne small large =
      let found = bit_at-trailing_zeros w64 (bit_and a b) (omega (arith, ne)) (and_lt 64 a b small large) in
      let t : ℕ = trailing_zeros w64 (bit_and a b) in
      let bit : t % 64 ≡ t = omega (arith, found.0) in
      let all : min (bit_at a t) (bit_at b t) ≡ 1 = sym (bit_at_and a b t) ∙ found.1 in
      let first : bit_at a t ≡ 1 = omega (arith, all, bit_at-lt a t) in
      let second : bit_at b t ≡ 1 = omega (arith, all, bit_at-lt b t) in (
        t,
        ap (λ i. nat_eq (bit_at a i) 1) bit ∙ ap (λ n. nat_eq n 1) first,
        ap (λ i. nat_eq (bit_at b i) 1) bit ∙ ap (λ n. nat_eq n 1) second,
      )

  pub apart : bit_and a b ≡ 0 → (x : ℕ) → is_in a x ≡ true → is_in b x ≡ true → ⊥
  apart none x first second =
      let one : bit_at a (x % 64) ≡ 1 = eqb-true _ _ first in
      let other : bit_at b (x % 64) ≡ 1 = eqb-true _ _ second in
      let nothing : bit_at (bit_and a b) (x % 64) ≡ 0 = ap (λ n. bit_at n (x % 64)) none ∙ bit_at-zero (x % 64) in
      omega (arith, bit_at_and a b (x % 64), one, other, nothing)

  pub meets : a < 2 ^ 64 → b < 2 ^ 64 → IsTrue (not (nat_eq (bit_and a b) 0)) ↔ ((x : ℕ) × (is_in a x ≡ true) × (is_in b x ≡ true))
  meets small large = elim (eqb_tells (bit_and a b) 0) [
    | inl p ↦ (λ h. absurd (both_ways _ (not-true _ h) p.0), λ h. absurd (apart p.1 h.0 h.1 h.2))
    | inr p ↦ (λ _. common p.1 small large, λ _. ap not p.0)
  ]
