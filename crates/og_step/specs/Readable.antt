-- When an assertion can be evaluated within 128 bits.
use Rattle.std.specs.Prelude.{ℕ, Bool, length, ◌&&◌, ◌||◌, nat_le, nat_lt}
use Rattle.std.specs.List.{list_all}
use Rattle.og_linear.specs.Linear.{FormValue, is_small}

-- the form has at most 256 variables
abbrev pub has_few : FormValue → Bool
has_few f = nat_le (length f.terms) 256

-- each variable of the form is one of the first n
abbrev pub is_within : ℕ → FormValue → Bool
is_within n f = list_all (λ t. nat_lt t.0 n) f.terms

-- small, over the first n variables, and few: in the form, or in all
abbrev pub is_readable : ℕ → FormValue → Bool
is_readable n f = (is_small f && is_within n f) && (has_few f || nat_le n 256)
