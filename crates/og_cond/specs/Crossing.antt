-- Interference over what matters of a process: its actions and the assertions that they may break.
use Rattle.std.specs.Prelude.{ℕ, Bool, List, [], ◌∷◌, ◌++◌, flat_map, if◌then◌else◌}
use Rattle.og_typed.specs.Syntax.{Formula, Noted, Simple, Sequence}
use Rattle.og_cond.specs.Condition.{Condition}
use Rattle.og_cond.specs.Conditions.{Action, assigned, actions, notes, interfere_condition}
use Rattle.og_cond.specs.Sets.{watches, assigns_some}

pub record Side : Type 0 where
  pub actions : List Action
  pub notes : List Noted

abbrev pub side_of : Sequence → Side
side_of process = record { actions = actions process; notes = notes process }

-- a variable below 256 that the action assigns occurs in the assertion
abbrev pub crosses : List Simple → Formula → Bool
crosses body a = assigns_some (watches a) body

module _ (test : List Simple → Formula → Bool) (n : ℕ) where
  -- the condition of a pair that passes the test
  abbrev pub pair_if : Action → Noted → List Condition
  pair_if action note = if test (assigned action) note.assertion then interfere_condition n action note ∷ [] else []

  abbrev pub pairs_of : Action → List Noted → List Condition
  pairs_of action notes = flat_map (pair_if action) notes

  -- one action against the assertions of the others
  abbrev pub action_crossings : Action → List Side → List Condition
  action_crossings action others = flat_map (λ side. pairs_of action side.notes) others

  abbrev pub side_crossings : List Action → List Side → List Condition
  side_crossings actions others = flat_map (λ action. action_crossings action others) actions

  -- each process with those before it and those after it
  abbrev pub crossings : List Side → List Side → List Condition
  crossings earlier [] = []
  crossings earlier (side ∷ later) = side_crossings side.actions (earlier ++ later) ++ crossings (earlier ++ side ∷ []) later
