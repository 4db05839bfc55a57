-- The bits of a set of variables.
use Rattle.std.proofs.Common.{◌≡◌, ◌≢◌, ℕ, ◌+◌, ◌*◌, ◌/◌, ◌%◌, ◌^◌, ◌<◌, List, length, get_or, set, Bool, true, false, ◌&&◌, ◌||◌, nat_eq, nat_lt, min, refl, sym, ap, ◌∙◌, arith, get_or-set_same, get_or-set_other, inl, inr}
use Rattle.std.specs.Int.{bit_at, trailing_zeros}
use Rattle.std.specs.Int.Bits.{and_lt}
use Rattle.std.specs.Prelude.{bit_or, bit_and}
use Rattle.std.proofs.lemmas.Nat.Bits.{bit_at_set_same, bit_at_set_other, bit_at_and, bit_at-lt, bit_at-zero, bit_at-trailing_zeros}
use Rattle.std.proofs.lemmas.List.{get_or_past}
use Rattle.std.proofs.lemmas.Bool.{eq-eqb, eqb-true, lt-ltb}
use Rattle.std.proofs.lemmas.Bool.Decides.{eqb_tells, leb_tells}
use mir.Syntax.{w64}

-- the answers for the variable that goes in, and for another one
known_same : (x v : ℕ) (b : Bool) → x ≡ v → v < 256 → true ≡ (nat_eq x v && nat_lt v 256 || b)
known_same x v b e small = rw (eq-eqb x v e, lt-ltb v 256 small) refl

not_equal : (x v : ℕ) → x ≢ v → nat_eq x v ≡ false
not_equal x v ne = elim (eqb_tells x v) [ inl p ↦ absurd (ne p.1) | inr p ↦ p.0 ]

known_other : (x v : ℕ) (b : Bool) → x ≢ v → b ≡ (nat_eq x v && nat_lt v 256 || b)
known_other x v b ne = rw (not_equal x v ne) refl

abbrev with_bit : ℕ → ℕ → ℕ
with_bit word v = bit_or word (1 * 2 ^ (v % 64) % 18446744073709551616)

abbrev is_in : List ℕ → ℕ → Bool
is_in words x = nat_eq (bit_at (get_or words (x / 64) 0) (x % 64)) 1

module _ (words : List ℕ) (v x : ℕ) (long : v / 64 < length words) (small : v < 256) where
  abbrev word : ℕ
  word = with_bit (get_or words (v / 64) 0) v

  abbrev known : Bool
  known = nat_eq x v && nat_lt v 256 || is_in words x

  same_word : x / 64 ≡ v / 64 → nat_eq (bit_at word (x % 64)) 1 ≡ known
  same_word same = elim (eqb_tells (x % 64) (v % 64)) [
    | inl p ↦
        let here : bit_at word (v % 64) ≡ 1 = bit_at_set_same w64 (get_or words (v / 64) 0) (v % 64) (omega arith) in
        let e : x ≡ v = omega (arith, same, p.1) in
        ap (λ i. nat_eq (bit_at word i) 1) p.1 ∙ ap (λ b. nat_eq b 1) here ∙ known_same x v (is_in words x) e small
    | inr p ↦
        let here : bit_at word (x % 64) ≡ bit_at (get_or words (v / 64) 0) (x % 64) = bit_at_set_other w64 (get_or words (v / 64) 0) (v % 64) (omega arith) (x % 64) p.1 in
        let ne : x ≢ v = λ e. p.1 (ap (λ y. y % 64) e) in
        ap (λ b. nat_eq b 1) here ∙ ap (λ k. nat_eq (bit_at (get_or words k 0) (x % 64)) 1) (sym same) ∙ known_other x v (is_in words x) ne
  ]

  pub insert_has : is_in (set words (v / 64) word) x ≡ known
  insert_has = elim (eqb_tells (x / 64) (v / 64)) [
    | inl p ↦
        ap (λ k. nat_eq (bit_at (get_or (set words (v / 64) word) k 0) (x % 64)) 1) p.1
        ∙ ap (λ w. nat_eq (bit_at w (x % 64)) 1) (get_or-set_same words (v / 64) word 0 long)
        ∙ same_word p.1
    | inr p ↦
        ap (λ w. nat_eq (bit_at w (x % 64)) 1) (get_or-set_other words (v / 64) (x / 64) word 0 p.1)
        ∙ known_other x v (is_in words x) (λ e. p.1 (ap (λ y. y / 64) e))
  ]

-- ---- a variable in both sets

module _ (u v : List ℕ) where
  abbrev both_at : ℕ → ℕ
  both_at k = bit_and (get_or u k 0) (get_or v k 0)

  pub common : (k : ℕ) → both_at k ≢ 0 → get_or u k 0 < 2 ^ 64 → get_or v k 0 < 2 ^ 64 → (x : ℕ) × (is_in u x ≡ true) × (is_in v x ≡ true)
  common k ne small large =
      let n : ℕ = both_at k in
      let found = bit_at-trailing_zeros w64 n (omega (arith, ne)) (and_lt 64 (get_or u k 0) (get_or v k 0) small large) in
      let t : ℕ = trailing_zeros w64 n in
      let x : ℕ = 64 * k + t in
      let word : x / 64 ≡ k = omega (arith, found.0) in
      let bit : x % 64 ≡ t = omega (arith, found.0) in
      let all : min (bit_at (get_or u k 0) t) (bit_at (get_or v k 0) t) ≡ 1 = sym (bit_at_and (get_or u k 0) (get_or v k 0) t) ∙ found.1 in
      let first : bit_at (get_or u k 0) t ≡ 1 = omega (arith, all, bit_at-lt (get_or u k 0) t) in
      let second : bit_at (get_or v k 0) t ≡ 1 = omega (arith, all, bit_at-lt (get_or v k 0) t) in (
        x,
        (λ i. nat_eq (bit_at (get_or u (word i) 0) (bit i)) 1) ∙ ap (λ b. nat_eq b 1) first,
        (λ i. nat_eq (bit_at (get_or v (word i) 0) (bit i)) 1) ∙ ap (λ b. nat_eq b 1) second,
      )

  pub apart : length u ≡ 4 → ((i : ℕ) → i < 4 → both_at i ≡ 0) → (x : ℕ) → is_in u x ≡ true → is_in v x ≡ true → ⊥
  apart long none x first second = elim (leb_tells 4 (x / 64)) [
    | inr p ↦
        let one : bit_at (get_or u (x / 64) 0) (x % 64) ≡ 1 = eqb-true _ _ first in
        let other : bit_at (get_or v (x / 64) 0) (x % 64) ≡ 1 = eqb-true _ _ second in
        let here = bit_at_and (get_or u (x / 64) 0) (get_or v (x / 64) 0) (x % 64) in
        let nothing : bit_at (both_at (x / 64)) (x % 64) ≡ 0 = ap (λ n. bit_at n (x % 64)) (none (x / 64) p.1) ∙ bit_at-zero (x % 64) in
        omega (arith, here, one, other, nothing)
    | inl p ↦
        let past : get_or u (x / 64) 0 ≡ 0 = get_or_past u (x / 64) 0 (omega (arith, p.1, long)) in
        let one : bit_at (get_or u (x / 64) 0) (x % 64) ≡ 1 = eqb-true _ _ first in
        omega (arith, one, ap (λ n. bit_at n (x % 64)) past, bit_at-zero (x % 64))
  ]
