-- What an action changes.
use Rattle.std.specs.Prelude.{ℕ, Bool, false, ◌||◌, ◌==◌, List, [], ◌∷◌}
use Rattle.og_typed.specs.Syntax.{Simple, Pass, Set}

-- the variable x is assigned
abbrev pub assigns : ℕ → List Simple → Bool
assigns x [] = false
assigns x (Pass ∷ rest) = assigns x rest
assigns x (Set y e ∷ rest) = x == y || assigns x rest
