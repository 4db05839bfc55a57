-- The conditions of an outline in groups: those before interference, those of each action against the other processes, and those after.
use Rattle.std.specs.Prelude.{◌≡◌, ◌≤◌, ◌<◌, ◌+◌, ◌-◌, ℕ, List, [], ◌∷◌, ◌++◌, length, map, flat_map, take, drop, slice_get, Option, Some, None, Result, Ok, Err, Vec}
use Rattle.std.specs.Global.{Global}
use Rattle.og_typed.specs.Syntax.{Program}
use Rattle.og_cond.specs.Condition as plain
use Rattle.og_cond.specs.Conditions.{Action, seq_conditions, prologue_conditions, start_condition, end_condition, epilogue_conditions, blocking_condition, conditions}
use Rattle.og_cond.specs.Crossing.{Side, crosses, side_crossings, crossings}
use Rattle.og_cond.specs.Seen.{seen}
use Rattle.og_cond.specs.Sides.{side_seen}
use Rattle.og_cond.specs.declared.condition.Condition.{Condition}
use Rattle.og_cond.specs.declared.fault.ConditionsError.{ConditionsError}
use Rattle.og_cond.specs.declared.fault.ConditionsError.TheVariants as errors
use Rattle.og_cond.specs.declared.groups.Next.{Next}
use Rattle.og_cond.specs.declared.groups.Next.TheVariants as next
use Rattle.og_cond.specs.declared.groups.Groups.{Groups}

-- those of the prologue, of the starts and of the statements of the processes
abbrev pub first_conditions : Program → List plain.Condition
first_conditions o =
    prologue_conditions o o.prologue ++ (map (start_condition o) o.processes ++ flat_map (seq_conditions (length o.names)) o.processes)

-- those of the end, of the epilogue and of blocking
abbrev pub last_conditions : Program → List plain.Condition
last_conditions o = end_condition o ∷ (epilogue_conditions o o.epilogue ++ blocking_condition o ∷ [])

-- interference from an action of the first of these processes on
abbrev pub crossings_from : ℕ → ℕ → List Side → List Side → List plain.Condition
crossings_from n action earlier [] = []
crossings_from n action earlier (side ∷ later) =
    side_crossings crosses n (drop action side.actions) (earlier ++ later) ++ crossings crosses n (earlier ++ side ∷ []) later

-- those that are still to come
abbrev pub rest_at : Program → List Side → Next → List plain.Condition
rest_at o sides next.First = first_conditions o ++ (crossings_from (length o.names) 0 [] sides ++ last_conditions o)
rest_at o sides (next.Action process action) =
    crossings_from (length o.names) action (take process sides) (drop process sides) ++ last_conditions o
rest_at o sides next.Nothing = []

abbrev pub rest : Groups → List plain.Condition
rest g = rest_at g.outline.now (map side_seen g.sides.items) g.next

-- how many groups are to come from an action of the first of these processes on; each process counts one more than its actions
abbrev pub steps_from : ℕ → List Side → ℕ
steps_from action [] = 0
steps_from action (side ∷ later) = (length side.actions - action) + 1 + steps_from 0 later

-- how many groups are still to come at most
abbrev pub left_at : List Side → Next → ℕ
left_at sides next.First = steps_from 0 sides + 2
left_at sides (next.Action process action) = steps_from action (drop process sides) + 1
left_at sides next.Nothing = 0

abbrev pub left : Groups → ℕ
left g = left_at (map side_seen g.sides.items) g.next

-- all conditions are to come, which are within the limit; or they are not; or memory ran out
abbrev pub IsStarted : ℕ → Program → Result Groups ConditionsError → Type 0
IsStarted limit o (Ok groups) = (rest groups ≡ conditions o) × (length (conditions o) ≤ limit)
IsStarted limit o (Err (errors.Fault fault)) = limit < length (conditions o)
IsStarted limit o (Err errors.Memory) = length (conditions o) ≤ limit

-- the next ones, or that there are none; a group may be empty, and then there are fewer to come
abbrev pub IsNext : Groups → Groups → Option (Vec Condition Global) → Type 0
IsNext old new None = rest old ≡ []
IsNext old new (Some group) = (rest old ≡ map seen group.items ++ rest new) × (left new < left old)
