-- A form in place of one variable.
use Rattle.std.specs.Prelude.{◌≡◌, true, ℕ, ℤ, pos, ◌+ℤ◌, ◌*ℤ◌, [], ◌∷◌, not, if◌then◌else◌, ◌==◌, Option, filter}
use Rattle.og_linear.specs.Linear.{Terms, FormValue, form_value}
use Rattle.og_linear.specs.Bounded.{fits_i128, add_scaled}

-- the coefficient of x, 0 where x has no term
abbrev pub coefficient : ℕ → Terms → ℤ
coefficient x [] = pos 0
coefficient x (t ∷ ts) = if x == t.0 then t.1 else coefficient x ts

-- the terms of the other variables
abbrev pub other_terms : ℕ → Terms → Terms
other_terms x = filter (λ t. not (x == t.0))

-- f without the variable x
abbrev pub without : ℕ → FormValue → FormValue
without x f = form_value (other_terms x f.terms) f.constant

-- each product and each sum of f + k * g fits: at every variable, and of the constants
abbrev pub EachFits : FormValue → ℤ → FormValue → Type 0
EachFits f k g =
    ((x : ℕ) → (fits_i128 (k *ℤ coefficient x g.terms) ≡ true) × (fits_i128 (coefficient x f.terms +ℤ k *ℤ coefficient x g.terms) ≡ true))
    × (fits_i128 (k *ℤ g.constant) ≡ true) × (fits_i128 (f.constant +ℤ k *ℤ g.constant) ≡ true)

-- f with g in place of x: f without x, and once the product
abbrev pub replace : ℕ → FormValue → FormValue → Option FormValue
replace x g f = add_scaled (without x f) (coefficient x f.terms) g
