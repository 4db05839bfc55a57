-- Bounds on sums and multiples of forms.
use Rattle.std.proofs.Common.{◌≡◌, ℕ, ◌+◌, ◌*◌, ◌≤◌, ◌<◌, ◌^◌, ℤ, pos, negsuc, ◌+ℤ◌, ◌*ℤ◌, [], ◌∷◌, Bool, true, false, ◌&&◌, refl, arith}
use Rattle.std.specs.Prelude.{nat_lt, nat_le, nat_abs, Result, Ok, Err, OnOk}
use Rattle.std.specs.Ordering.{int_eq}
use Rattle.std.proofs.Math.Nat.{mul-le-mul}
use Rattle.std.proofs.lemmas.Int.{ints, unsigned_abs-mul}
use Rattle.std.proofs.lemmas.Bool.{cond_both, and_parts, lt-ltb, leb-true, le-leb}
use Rattle.og_linear.specs.Linear.{Terms, FormValue}
use Rattle.og_linear.specs.Arith.{with_term, scale_terms, merge_in, merge, scaled, plus}
use Rattle.og_linear.specs.Bounded.{fits_i128, fits_terms, fits_form}
use Rattle.og_typed.specs.Bounds.{are_within, IsWithin}

and_both : (b d : Bool) → b ≡ true → d ≡ true → (b && d) ≡ true
and_both true d h k = k
and_both false d h k = h

le_test : (n b : ℕ) → n ≤ b → nat_le n b ≡ true
le_test n b h = le-leb n b h

test_le : (n b : ℕ) → nat_le n b ≡ true → n ≤ b
test_le n b h = leb-true n b h

more_terms : (a b : ℕ) (ts : Terms) → a ≤ b → are_within a ts ≡ true → are_within b ts ≡ true
more_terms a b [] le h = refl
more_terms a b (t ∷ ts) le h =
    let both = and_parts (nat_le (nat_abs t.1) a) (are_within a ts) h in
    let small = test_le (nat_abs t.1) a both.0 in
    and_both _ _ (le_test (nat_abs t.1) b (omega (arith, small, le))) (more_terms a b ts le both.1)

pub within_more : (a b : ℕ) (f : FormValue) → a ≤ b → IsWithin a f → IsWithin b f
within_more a b f le h = record { coefficients = more_terms a b f.terms le h.coefficients; offset = omega (arith, h.offset, le) }

one_more : (b x : ℕ) (c : ℤ) (rest : Terms) → nat_abs c ≤ b → are_within b rest ≡ true → are_within b (with_term x c rest) ≡ true
one_more b x c rest small h =
    cond_both (int_eq c (pos 0)) rest ((x, c) ∷ rest) (λ ts. are_within b ts ≡ true) (λ e. h) (λ e. and_both _ _ (le_test (nat_abs c) b small) h)

product_small : (k c : ℤ) (m b : ℕ) → nat_abs k ≤ m → nat_abs c ≤ b → nat_abs (k *ℤ c) ≤ m * b
product_small k c m b h l =
    let e = unsigned_abs-mul k c in
    let both : nat_abs k * nat_abs c ≤ m * b = mul-le-mul h l in
    omega (arith, e, both)

scaled_terms : (k : ℤ) (m b : ℕ) (ts : Terms) → nat_abs k ≤ m → are_within b ts ≡ true → are_within (m * b) (scale_terms k ts) ≡ true
scaled_terms k m b [] h w = refl
scaled_terms k m b (t ∷ ts) h w =
    let both = and_parts (nat_le (nat_abs t.1) b) (are_within b ts) w in
    one_more (m * b) t.0 (k *ℤ t.1) (scale_terms k ts) (product_small k t.1 m b h (test_le (nat_abs t.1) b both.0)) (scaled_terms k m b ts h both.1)

pub within_scaled : (k : ℤ) (m b : ℕ) (f : FormValue) → nat_abs k ≤ m → IsWithin b f → IsWithin (m * b) (scaled k f)
within_scaled k m b f h w = record { coefficients = scaled_terms k m b f.terms h w.coefficients; offset = product_small k f.constant m b h w.offset }

sum_small : (a b : ℤ) → nat_abs (a +ℤ b) ≤ nat_abs a + nat_abs b
sum_small (pos m) (pos n) = omega (arith, ints)
sum_small (pos m) (negsuc n) = omega (arith, ints)
sum_small (negsuc m) (pos n) = omega (arith, ints)
sum_small (negsuc m) (negsuc n) = omega (arith, ints)

merged_in : (a b : ℕ) (t : ℕ × ℤ) (ts : Terms) → are_within a (t ∷ ts) ≡ true → ((us : Terms) → are_within b us ≡ true → are_within (a + b) (merge ts us) ≡ true) → (us : Terms) → are_within b us ≡ true → are_within (a + b) (merge_in t (merge ts) us) ≡ true
merged_in a b t ts h rec [] k =
    let left = and_parts (nat_le (nat_abs t.1) a) (are_within a ts) h in
    and_both _ _ (le_test (nat_abs t.1) (a + b) (omega (arith, test_le (nat_abs t.1) a left.0))) (rec [] refl)
merged_in a b t ts h rec (u ∷ us) k =
    let left = and_parts (nat_le (nat_abs t.1) a) (are_within a ts) h in
    let right = and_parts (nat_le (nat_abs u.1) b) (are_within b us) k in
    let small_left = test_le (nat_abs t.1) a left.0 in
    let small_right = test_le (nat_abs u.1) b right.0 in
    cond_both (nat_lt t.0 u.0) _ _ (λ r. are_within (a + b) r ≡ true)
    (λ e. and_both _ _ (le_test (nat_abs t.1) (a + b) (omega (arith, small_left))) (rec (u ∷ us) k))
    (λ e. cond_both (nat_lt u.0 t.0) _ _ (λ r. are_within (a + b) r ≡ true)
    (λ f. and_both _ _ (le_test (nat_abs u.1) (a + b) (omega (arith, small_right))) (merged_in a b t ts h rec us right.1))
    (λ f. one_more (a + b) t.0 (t.1 +ℤ u.1) (merge ts us) (omega (arith, sum_small t.1 u.1, small_left, small_right)) (rec us right.1)))

merged : (a b : ℕ) (ts us : Terms) → are_within a ts ≡ true → are_within b us ≡ true → are_within (a + b) (merge ts us) ≡ true
merged a b [] us h k = more_terms b (a + b) us (omega arith) k
merged a b (t ∷ ts) us h k =
    merged_in a b t ts h (λ vs w. merged a b ts vs (and_parts (nat_le (nat_abs t.1) a) (are_within a ts) h).1 w) us k

pub within_plus : (a b : ℕ) (f g : FormValue) → IsWithin a f → IsWithin b g → IsWithin (a + b) (plus f g)
within_plus a b f g h k = record {
  coefficients = merged a b f.terms g.terms h.coefficients k.coefficients;
  offset = omega (arith, sum_small f.constant g.constant, h.offset, k.offset);
}

fits_small : (z : ℤ) → nat_abs z < 2 ^ 127 → fits_i128 z ≡ true
fits_small (pos n) h = lt-ltb n (2 ^ 127) h
fits_small (negsuc n) h = lt-ltb n (2 ^ 127) (omega (arith, h))

fits_each : (b : ℕ) (ts : Terms) → b < 2 ^ 127 → are_within b ts ≡ true → fits_terms ts ≡ true
fits_each b [] h k = refl
fits_each b (t ∷ ts) h k =
    let both = and_parts (nat_le (nat_abs t.1) b) (are_within b ts) k in
    and_both _ _ (fits_small t.1 (omega (arith, test_le (nat_abs t.1) b both.0, h))) (fits_each b ts h both.1)

pub within_fits : (b : ℕ) (f : FormValue) → b < 2 ^ 127 → IsWithin b f → fits_form f ≡ true
within_fits b f h w = and_both _ _ (fits_each b f.terms h w.coefficients) (fits_small f.constant (omega (arith, w.offset, h)))

-- one term more
pub term_within : (k : ℤ) (b : ℕ) (f g : FormValue) → nat_abs k ≤ 2 ^ 64 → IsWithin b f → IsWithin 1 g → IsWithin (b + 2 ^ 64) (plus f (scaled k g))
term_within k b f g h w one = within_plus b (2 ^ 64 * 1) f (scaled k g) w (within_scaled k (2 ^ 64) 1 g h one)

pub on_ok : {X E : Type 0} (r : Result X E) (P Q : Type 0) → OnOk r P → (P → Q) → OnOk r Q
on_ok (Ok x) P Q h f = f h
on_ok (Err e) P Q h f = tt
