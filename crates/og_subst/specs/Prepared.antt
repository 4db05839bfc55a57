-- The part of an action that is prepared.
use Rattle.std.specs.Prelude.{List}
use Rattle.og_linear.specs.Linear.{FormValue}
use Rattle.og_linear.specs.Bounded.{MapValue}

-- the map, and the form of each assigned value, in order
pub record Prepared : Type 0 where
  pub map : MapValue
  pub values : List FormValue

abbrev pub prepared : MapValue → List FormValue → Prepared
prepared map values = record { map = map; values = values }
