-- Runs of an outline, as histories: lists of the numbers of the processes that stepped.
use Rattle.std.specs.Prelude.{ℕ, ℤ, List, Option, Some}
use Rattle.og_typed.specs.Syntax.{Program}
use Rattle.og_typed.specs.Machine.{Moment, run_on, start_of}

-- what a run is given: an outline, the values of its variables that are no auxiliaries, and the greatest number of steps
pub record Given : Type 0 where
  pub outline : Program
  pub values : List ℤ
  pub limit : ℕ

-- the moment to which the history leads from the start, where each of its numbers is a step
abbrev pub moment_after : Given → List ℕ → Option Moment
moment_after g h = run_on h (Some (start_of g.outline g.values))
