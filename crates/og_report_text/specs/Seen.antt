-- What values of the program stand for.
use Rattle.std.specs.Prelude.{List, map}
use Rattle.og_typed.specs.Syntax.{Formula}
use Rattle.og_typed.specs.Plain.{formula}
use Rattle.og_typed.specs.declared.assertion.Assert.{Assert}
use denote.Ref.{Bor}

abbrev pub formulas_of : List (Bor Assert) → List Formula
formulas_of = map (λ a. formula a.now)
