-- The parts of a sum with a multiple: its terms, and its constant.
use Rattle.std.specs.Prelude.{◌≡◌, true, ℤ, ◌+ℤ◌, ◌*ℤ◌, ◌&&◌, Option, Some, None, if◌then◌else◌}
use Rattle.og_linear.specs.Linear.{Terms}
use Rattle.og_linear.specs.Tidy.{IsTidy}
use Rattle.og_linear.specs.Arith.{scale_terms, merge}
use Rattle.og_linear.specs.Bounded.{fits_i128, fits_terms}

-- terms of a form: the variables rise, no coefficient is 0, and each fits
abbrev pub AreTerms : Terms → Type 0
AreTerms ts = IsTidy ts × (fits_terms ts ≡ true)

-- the terms ts + k * us, where each product and each sum fits
abbrev pub added_terms : Terms → ℤ → Terms → Option Terms
added_terms ts k us =
    if fits_terms (scale_terms k us) && fits_terms (merge ts (scale_terms k us)) then Some (merge ts (scale_terms k us)) else None

-- c + k * d, where the product and the sum fit
abbrev pub added_int : ℤ → ℤ → ℤ → Option ℤ
added_int c k d = if fits_i128 (k *ℤ d) && fits_i128 (c +ℤ k *ℤ d) then Some (c +ℤ k *ℤ d) else None
