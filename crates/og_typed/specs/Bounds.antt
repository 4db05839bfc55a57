-- Bounds on the numbers of a form.
use Rattle.std.specs.Prelude.{◌≡◌, ℕ, ◌≤◌, Bool, true, nat_le, nat_abs}
use Rattle.std.specs.List.{list_all}
use Rattle.og_linear.specs.Linear.{Terms, FormValue}

abbrev pub are_within : ℕ → Terms → Bool
are_within bound = list_all (λ t. nat_le (nat_abs t.1) bound)

-- each coefficient and the constant are at most this in magnitude
pub record IsWithin (bound : ℕ) (f : FormValue) : Type 0 where
  pub coefficients : are_within bound f.terms ≡ true
  pub offset : nat_abs f.constant ≤ bound
