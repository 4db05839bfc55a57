-- Two forms of one variable, of which multiples sum to a constant above 0.
use Rattle.std.specs.Prelude.{◌≡◌, ℕ, ℤ, pos, ◌+ℤ◌, ◌*ℤ◌, int_lt, [], ◌∷◌, true}
use Rattle.og_linear.specs.Linear.{FormValue, form_value}
use Rattle.og_linear.specs.Bounded.{fits_i128}
use Rattle.og_cert.specs.declared.opposite.Single.{Single}

abbrev pub single_form : Single → FormValue
single_form s = form_value ((s.var, s.coefficient) ∷ []) s.constant

-- z is k * c + m * d, and each of the three fits
abbrev pub IsMixed : ℕ → ℤ → ℕ → ℤ → ℤ → Type 0
IsMixed k c m d z =
    (fits_i128 (pos k *ℤ c) ≡ true) × (fits_i128 (pos m *ℤ d) ≡ true) × (fits_i128 (pos k *ℤ c +ℤ pos m *ℤ d) ≡ true) × (z ≡ pos k *ℤ c +ℤ pos m *ℤ d)

-- they have one variable, whose multiples cancel, and the constants sum to more than 0
pub record Opposes (k : ℕ) (x : Single) (m : ℕ) (y : Single) : Type 0 where
  pub same : x.var ≡ y.var
  pub terms : IsMixed k x.coefficient m y.coefficient (pos 0)
  pub total : ℤ
  pub constants : IsMixed k x.constant m y.constant total
  pub above : int_lt (pos 0) total ≡ true
