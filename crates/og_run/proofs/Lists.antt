-- Reading and writing one place of a list.
use Rattle.std.proofs.Common.{◌≡◌, ◌≢◌, ℕ, zero, suc, ◌<◌, List, [], ◌∷◌, set, replicate, length, refl, ap, arith, Some}
use Rattle.std.specs.Prelude.{slice_get}

pub slice_get_set_same : {X : Type 0} (xs : List X) (p : ℕ) (x y : X) → slice_get xs p ≡ Some x → slice_get (set xs p y) p ≡ Some y
slice_get_set_same [] p x y e = absurd (cc)
slice_get_set_same (z ∷ xs) zero x y e = refl
slice_get_set_same (z ∷ xs) (suc p) x y e = slice_get_set_same xs p x y e

pub slice_get_set_other : {X : Type 0} (xs : List X) (p q : ℕ) (y : X) → q ≢ p → slice_get (set xs p y) q ≡ slice_get xs q
slice_get_set_other [] p q y apart = refl
slice_get_set_other (z ∷ xs) zero zero y apart = absurd (apart refl)
slice_get_set_other (z ∷ xs) zero (suc q) y apart = refl
slice_get_set_other (z ∷ xs) (suc p) zero y apart = refl
slice_get_set_other (z ∷ xs) (suc p) (suc q) y apart = slice_get_set_other xs p q y (λ e. apart (ap suc e))

pub there_is : {X : Type 0} (xs : List X) (p : ℕ) → p < length xs → (x : X) × (slice_get xs p ≡ Some x)
there_is [] p h = absurd (omega (arith, h))
there_is (x ∷ xs) zero h = (x, refl)
there_is (x ∷ xs) (suc p) h = there_is xs p (omega (arith, h))

pub all_same : {X : Type 0} (n : ℕ) (y : X) (q : ℕ) (x : X) → slice_get (replicate n y) q ≡ Some x → y ≡ x
all_same zero y q x e = absurd (cc)
all_same (suc n) y zero x e = cc
all_same (suc n) y (suc q) x e = all_same n y q x e
