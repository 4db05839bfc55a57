-- Arithmetic on forms: as whole numbers, and as far as each number fits 128 bits.
use Rattle.std.specs.Prelude.{ℕ, ℤ, pos, ◌+ℤ◌, ◌*ℤ◌, [], ◌∷◌, if◌then◌else◌, nat_lt}
use Rattle.std.specs.Ordering.{int_eq}
use Rattle.og_linear.specs.Linear.{Terms, FormValue, form_value}

-- ---- whole numbers

-- a term in front of later ones; one with coefficient 0 is left out
abbrev pub with_term : ℕ → ℤ → Terms → Terms
with_term x c rest = if int_eq c (pos 0) then rest else (x, c) ∷ rest

abbrev pub scale_terms : ℤ → Terms → Terms
scale_terms k [] = []
scale_terms k (t ∷ ts) = with_term t.0 (k *ℤ t.1) (scale_terms k ts)

-- the sum of t and what stands after it with us, where `rest` is the sum of what stands after it with another list
abbrev pub merge_in : ℕ × ℤ → (Terms → Terms) → Terms → Terms
merge_in t rest [] = t ∷ rest []
merge_in t rest (u ∷ us) =
    if nat_lt t.0 u.0 then t ∷ rest (u ∷ us)
    else (if nat_lt u.0 t.0 then u ∷ merge_in t rest us else with_term t.0 (t.1 +ℤ u.1) (rest us))

abbrev pub merge : Terms → Terms → Terms
merge [] us = us
merge (t ∷ ts) us = merge_in t (merge ts) us

-- k times f
abbrev pub scaled : ℤ → FormValue → FormValue
scaled k f = form_value (scale_terms k f.terms) (k *ℤ f.constant)

-- f + g
abbrev pub plus : FormValue → FormValue → FormValue
plus f g = form_value (merge f.terms g.terms) (f.constant +ℤ g.constant)

-- ---- putting forms in place of variables

abbrev pub variable : ℕ → FormValue
variable x = form_value ((x, pos 1) ∷ []) (pos 0)
