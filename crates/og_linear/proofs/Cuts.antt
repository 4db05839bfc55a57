-- A cut of an inequality over whole numbers.
use Rattle.std.proofs.Common.{◌≡◌, ℕ, ◌<◌, ◌≤◌, ℤ, pos, negsuc, ◌+ℤ◌, ◌*ℤ◌, List, [], ◌∷◌, Bool, true, false, cond, Some, refl, sym, ap, ap₂, ◌∙◌, subst, arith}
use Rattle.std.specs.Prelude.{int_le, int_lt, int_div, int_rem, unsigned_abs, ◌≤ℤ◌, ◌↔◌}
use Rattle.std.specs.List.{list_all}
use Rattle.std.proofs.Math.Nat.{mul-le-mul_right}
use Rattle.std.proofs.Math.IntN.{*ℤ_comm, *ℤ-zero}
use Rattle.std.proofs.lemmas.Int.{ints, quot-rem, rem_below}
use Rattle.std.proofs.lemmas.Bool.{and_parts}
use Rattle.std.proofs.lemmas.Option.{cond_some}
use Rattle.og_linear.specs.Linear.{Terms, FormValue, val, val_terms, value_at}
use Rattle.og_linear.specs.Bounded.{divides, divide_terms, ceil_div, cut}
use Rattle.og_linear.proofs.Steps.{divided}
use Rattle.og_linear.proofs.Ring.{mul-add, add-mul, mul_assoc}

-- a product with something positive
at_least : (t d : ℤ) → pos 1 ≤ℤ t → pos 1 ≤ℤ d → d ≤ℤ (t *ℤ d)
at_least (pos n) (pos m) h k =
    let one : 1 ≤ n = omega (arith, ints) in
    omega (arith, ints, mul-le-mul_right m one)
at_least (pos n) (negsuc m) h k = absurd (omega (arith, ints))
at_least (negsuc n) d h k = absurd (omega (arith, ints))

-- a product with something that is not positive
negative : (t d : ℤ) → t ≤ℤ pos 0 → pos 1 ≤ℤ d → (t *ℤ d) ≤ℤ pos 0
negative t (pos m) h k = negative_by t m h
  where
    negative_by : (t : ℤ) (m : ℕ) → t ≤ℤ pos 0 → (t *ℤ pos m) ≤ℤ pos 0
    negative_by (pos n) m h =
        let none : n ≡ 0 = omega (arith, ints) in
        subst (λ k. (pos k *ℤ pos m) ≤ℤ pos 0) (sym none) (omega (arith, ints))
    negative_by (negsuc n) m h = omega (arith, ints)
negative t (negsuc m) h k = absurd (omega (arith, ints))

rem_small : (c d : ℤ) → pos 1 ≤ℤ d → unsigned_abs (int_rem c d) < unsigned_abs d
rem_small c d h = rem_below c d (omega (arith, ints))

-- d * ceil(c / d) is below c + d
pub ceil_below : (c d : ℤ) → pos 1 ≤ℤ d → (ceil_div c d *ℤ d +ℤ pos 1) ≤ℤ (c +ℤ d)
ceil_below c d h = go (int_lt (pos 0) (int_rem c d)) refl
  where
    go : (b : Bool) → int_lt (pos 0) (int_rem c d) ≡ b → ((int_div c d +ℤ cond b (pos 1) (pos 0)) *ℤ d +ℤ pos 1) ≤ℤ (c +ℤ d)
    go true e =
        let q = quot-rem c d in
        let m = add-mul d (int_div c d) (pos 1) in
        let one : pos 1 *ℤ d ≡ d = omega (arith, ints) in
        omega (arith, ints, q, m, one)
    go false e =
        let q = quot-rem c d in
        let m = add-mul d (int_div c d) (pos 0) in
        let none : pos 0 *ℤ d ≡ pos 0 = omega (arith, ints) in
        omega (arith, ints, q, m, none, rem_small c d h)

val-divide_terms : (d : ℤ) (ts : Terms) (s : List ℤ) → list_all (λ t. divides d t.1) ts ≡ true → val_terms ts s ≡ d *ℤ val_terms (divide_terms d ts) s
val-divide_terms d [] s e = sym (*ℤ-zero d)
val-divide_terms d (t ∷ ts) s e =
    let both = and_parts (divides d t.1) (list_all (λ t. divides d t.1) ts) e in
    ap₂ ◌+ℤ◌
    (ap (λ c. c *ℤ value_at s t.0) (sym (divided d t.1 both.0) ∙ *ℤ_comm (int_div t.1 d) d) ∙ mul_assoc d (int_div t.1 d) (value_at s t.0))
    (val-divide_terms d ts s both.1)
    ∙ sym (mul-add d (int_div t.1 d *ℤ value_at s t.0) (val_terms (divide_terms d ts) s))

-- c is at most d * ceil(c / d)
pub ceil_above : (c d : ℤ) → pos 1 ≤ℤ d → c ≤ℤ (ceil_div c d *ℤ d)
ceil_above c d h = go (int_lt (pos 0) (int_rem c d)) refl
  where
    go : (b : Bool) → int_lt (pos 0) (int_rem c d) ≡ b → c ≤ℤ ((int_div c d +ℤ cond b (pos 1) (pos 0)) *ℤ d)
    go true e =
        let q = quot-rem c d in
        let m = add-mul d (int_div c d) (pos 1) in
        let one : pos 1 *ℤ d ≡ d = omega (arith, ints) in
        omega (arith, ints, q, m, one, rem_small c d h)
    go false e =
        let q = quot-rem c d in
        let m = add-mul d (int_div c d) (pos 0) in
        let none : pos 0 *ℤ d ≡ pos 0 = omega (arith, ints) in
        omega (arith, ints, q, m, none)

-- a value that is at most 0 before a cut is at most 0 after it
round_up : (x c d : ℤ) → pos 1 ≤ℤ d → (d *ℤ x +ℤ c) ≤ℤ pos 0 → (x +ℤ ceil_div c d) ≤ℤ pos 0
round_up x c d h k = go (int_le (x +ℤ ceil_div c d) (pos 0)) refl
  where
    go : (b : Bool) → int_le (x +ℤ ceil_div c d) (pos 0) ≡ b → (x +ℤ ceil_div c d) ≤ℤ pos 0
    go true e = omega (arith, ints)
    go false e =
        let above : pos 1 ≤ℤ (x +ℤ ceil_div c d) = omega (arith, ints) in
        let large = at_least (x +ℤ ceil_div c d) d above h in
        let parts = add-mul d x (ceil_div c d) in
        let turned = *ℤ_comm d x in
        absurd (omega (arith, ints, large, parts, turned, ceil_below c d h))

-- and the other way round
multiply : (x c d : ℤ) → pos 1 ≤ℤ d → (x +ℤ ceil_div c d) ≤ℤ pos 0 → (d *ℤ x +ℤ c) ≤ℤ pos 0
multiply x c d h k =
    let below = negative (x +ℤ ceil_div c d) d k h in
    let parts = add-mul d x (ceil_div c d) in
    let turned = *ℤ_comm d x in
    omega (arith, ints, below, parts, turned, ceil_above c d h)

abbrev pub SaysTheSame : FormValue → FormValue → List ℤ → Type 0
SaysTheSame f g s = (val f s ≤ℤ pos 0) ↔ (val g s ≤ℤ pos 0)

pub cut_said : (f g : FormValue) (d : ℤ) (s : List ℤ) → cut f d ≡ Some g → (val f s ≤ℤ pos 0) ↔ (val g s ≤ℤ pos 0)
cut_said f g d s e =
    let p = cond_some _ _ g e in
    let both = and_parts (int_le (pos 1) d) (list_all (λ t. divides d t.1) f.terms) p.0 in
    let one : int_le (pos 1) d ≡ true = both.0 in
    let positive : pos 1 ≤ℤ d = omega (arith, ints) in
    let v = val-divide_terms d f.terms s both.1 in
    let quotient = val_terms (divide_terms d f.terms) s in
    subst (λ k. SaysTheSame f k s) p.1 (
      (λ h. round_up quotient f.constant d positive (subst (λ w. (w +ℤ f.constant) ≤ℤ pos 0) v h)),
      (λ h. subst (λ w. (w +ℤ f.constant) ≤ℤ pos 0) (sym v) (multiply quotient f.constant d positive h)),
    )
