-- Arithmetic on forms as far as each number fits 128 bits.
use Rattle.std.specs.Prelude.{ℕ, ◌^◌, ℤ, pos, negsuc, ◌+ℤ◌, List, [], ◌∷◌, Bool, ◌&&◌, if◌then◌else◌, nat_lt, ◌==◌, Option, Some, None, int_lt, int_le, int_div, int_rem, option_and_then}
use Rattle.std.specs.Ordering.{int_eq}
use Rattle.std.specs.List.{list_any, list_all}
use Rattle.og_linear.specs.Linear.{Terms, FormValue, form_value}
use Rattle.og_linear.specs.Arith.{scaled, plus, variable}

abbrev pub fits_i128 : ℤ → Bool
fits_i128 (pos n) = nat_lt n (2 ^ 127)
fits_i128 (negsuc n) = nat_lt n (2 ^ 127)

abbrev pub fits_terms : Terms → Bool
fits_terms = list_all (λ t. fits_i128 t.1)

abbrev pub fits_form : FormValue → Bool
fits_form f = fits_terms f.terms && fits_i128 f.constant

-- f + k * g, where each product and each sum fits
abbrev pub add_scaled : FormValue → ℤ → FormValue → Option FormValue
add_scaled f k g =
    if fits_form (scaled k g) && fits_form (plus f (scaled k g)) then Some (plus f (scaled k g)) else None

-- a finite map from variables to forms; a variable that it doesn't name is itself
abbrev pub MapValue : Type 0
MapValue = List (ℕ × FormValue)

-- the map with g for x, in place of an earlier form
abbrev pub map_set : MapValue → ℕ → FormValue → MapValue
map_set [] x g = (x, g) ∷ []
map_set (e ∷ m) x g = if x == e.0 then (x, g) ∷ m else e ∷ map_set m x g

-- the map has a form for x
abbrev pub names : MapValue → ℕ → Bool
names m x = list_any (λ e. x == e.0) m

-- the form that stands for x
abbrev pub image : MapValue → ℕ → FormValue
image [] x = variable x
image (e ∷ m) x = if x == e.0 then e.1 else image m x

-- sum + the sum of a_v * map(v), from left to right
abbrev pub apply_terms : MapValue → Terms → FormValue → Option FormValue
apply_terms m [] sum = Some sum
apply_terms m (t ∷ ts) sum = option_and_then (apply_terms m ts) (add_scaled sum t.1 (image m t.0))

-- f with the map's forms in place of the variables, all at once
abbrev pub apply : MapValue → FormValue → Option FormValue
apply m f = apply_terms m f.terms (form_value [] f.constant)

-- d divides the coefficient
abbrev pub divides : ℤ → ℤ → Bool
divides d c = int_eq (int_rem c d) (pos 0)

abbrev pub divide_terms : ℤ → Terms → Terms
divide_terms d [] = []
divide_terms d (t ∷ ts) = (t.0, int_div t.1 d) ∷ divide_terms d ts

-- the least whole number that is not below c / d, for d above 0
abbrev pub ceil_div : ℤ → ℤ → ℤ
ceil_div c d = int_div c d +ℤ (if int_lt (pos 0) (int_rem c d) then pos 1 else pos 0)

-- each coefficient and the constant divided by d, the constant rounded up
abbrev pub cut : FormValue → ℤ → Option FormValue
cut f d =
    if int_le (pos 1) d && list_all (λ t. divides d t.1) f.terms
    then Some (form_value (divide_terms d f.terms) (ceil_div f.constant d)) else None
