-- Forms, states, and the value of a form at a state.
use Rattle.std.specs.Prelude.{ℕ, zero, suc, ℤ, pos, negsuc, ◌+ℤ◌, ◌*ℤ◌, List, [], ◌∷◌, All, get_or, FitsSigned, Bool, ◌==◌, ◌&&◌, nat_lt, nat_le, ◌^◌, nat_abs}
use Rattle.std.specs.List.{list_any, list_all}
use mir.Syntax.{w64}

-- variables, each with its coefficient
abbrev pub Terms : Type 0
Terms = List (ℕ × ℤ)

-- a form as contracts see it: its variables, rising, with their nonzero coefficients, and its constant
pub record FormValue : Type 0 where
  pub terms : Terms
  pub constant : ℤ

abbrev pub form_value : Terms → ℤ → FormValue
form_value terms constant = record { terms = terms; constant = constant }

-- the variable x has a term among these
abbrev pub is_term : ℕ → Terms → Bool
is_term x = list_any (λ t. x == t.0)

abbrev pub fits_i64 : ℤ → Bool
fits_i64 (pos n) = nat_lt n (2 ^ 63)
fits_i64 (negsuc n) = nat_lt n (2 ^ 63)

-- the limits of a source: coefficients up to 2 ^ 31 in magnitude, and a constant that is an i64
abbrev pub is_small : FormValue → Bool
is_small f = list_all (λ t. nat_le (nat_abs t.1) (2 ^ 31)) f.terms && fits_i64 f.constant

-- ---- states

-- a state gives each variable a whole number; one beyond its end is 0
abbrev pub value_at : List ℤ → ℕ → ℤ
value_at s x = get_or s x (pos 0)

-- the state with v at x; it grows where x is beyond its end, so that v is read there in any case
abbrev pub put : List ℤ → ℕ → ℤ → List ℤ
put [] zero v = v ∷ []
put [] (suc x) v = pos 0 ∷ put [] x v
put (w ∷ s) zero v = v ∷ s
put (w ∷ s) (suc x) v = w ∷ put s x v

-- each value is an i64
abbrev pub IsProper : List ℤ → Type 0
IsProper s = All (FitsSigned w64) s

-- ---- values

-- the sum of the terms
abbrev pub val_terms : Terms → List ℤ → ℤ
val_terms [] s = pos 0
val_terms (t ∷ ts) s = t.1 *ℤ value_at s t.0 +ℤ val_terms ts s

-- the value of a form at a state
abbrev pub val : FormValue → List ℤ → ℤ
val f s = val_terms f.terms s +ℤ f.constant
