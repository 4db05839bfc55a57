-- Values that fit 64 bits.
use Rattle.std.proofs.Common.{◌≡◌, ℤ, pos, negsuc, true, false, FitsSigned, arith}
use Rattle.og_template_expand.specs.Values.{fits}
use mir.Syntax.{w64}
use Rattle.std.proofs.lemmas.Bool.Decides.{nat_tests}

pub fits_true : (z : ℤ) → FitsSigned w64 z → fits z ≡ true
fits_true (pos n) h = grind (arith, nat_tests)
fits_true (negsuc n) h = grind (arith, nat_tests)

pub fits_false : (z : ℤ) → (FitsSigned w64 z → ⊥) → fits z ≡ false
fits_false (pos n) h = grind (arith, nat_tests)
fits_false (negsuc n) h = grind (arith, nat_tests)
