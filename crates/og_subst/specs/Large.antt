-- Values that an action assigns and that are no 64-bit numbers.
use Rattle.std.specs.Prelude.{ℕ, ℤ, List, [], ◌∷◌, Option, Some, None, if◌then◌else◌}
use Rattle.og_linear.specs.Linear.{put, val, fits_i64}
use Rattle.og_typed.specs.Syntax.{Simple, Pass, Set}

-- the first one, in order, with its variable
abbrev pub first_large : List Simple → List ℤ → Option (ℕ × ℤ)
first_large [] s = None
first_large (Pass ∷ rest) s = first_large rest s
first_large (Set x e ∷ rest) s = if fits_i64 (val e s) then first_large rest (put s x (val e s)) else Some (x, val e s)
