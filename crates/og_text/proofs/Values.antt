-- The value of a row of digits.
use Rattle.std.proofs.Common.{◌≡◌, ℕ, ◌+◌, ◌*◌, ◌-◌, ◌≤◌, ◌<◌, List, [], ◌∷◌, length, get_or, drop, arith, refl, add-one}
use Rattle.std.proofs.Math.Seq.{drop-cons}
use Rattle.og_text.specs.Lexemes.{value_from}

-- digits after a number make it no smaller
pub value_from-ge : (n : ℕ) (ds : List ℕ) → n ≤ value_from n ds
value_from-ge n [] = omega arith
value_from-ge n (d ∷ ds) = omega (arith, value_from-ge (10 * n + (d - 48)) ds)

-- one digit more
pub value_step : (n i d : ℕ) (ds : List ℕ) → i < length ds → get_or ds i 0 ≡ d → value_from n (drop i ds) ≡ value_from (10 * n + (d - 48)) (drop (i + 1) ds)
value_step n i d ds lt is = rw (add-one, drop-cons ds i 0, is) refl
