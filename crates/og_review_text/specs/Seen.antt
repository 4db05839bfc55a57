-- What values of the program stand for.
use Rattle.std.specs.Prelude.{◌≡◌, ℕ, List, ◌++◌, map, Option, option_map}
use Rattle.og_typed.specs.Syntax.{Sequence, Statement, Program}
use Rattle.og_typed.specs.Plain.{noted, statement}
use Rattle.og_typed.specs.declared.statement.Item.{Item}
use Rattle.og_typed.specs.Sites.{of_main, of_processes}
use Rattle.og_typed.specs.declared.sites.Part.{Part}
use Rattle.og_review_text.specs.declared.accesses.Accesses.{Accesses}
use Rattle.og_review_text.specs.declared.idioms.Move.{Move}
use Rattle.og_review_text.specs.declared.steps.Access.TheVariants as access
use Rattle.og_review_text.specs.declared.walk.Point.{Point}
use Rattle.og_review_text.specs.declared.walk.Step.{Step}
use Rattle.og_review_text.specs.declared.walk.Walk.{Walk}
use Rattle.og_review_text.specs.Idioms as idioms
use Rattle.og_review_text.specs.Points as points
use Rattle.og_review_text.specs.Steps as steps
use denote.Ref.{Bor}

abbrev pub next_of : Option (Bor Item) → Option (Statement × ℕ)
next_of = option_map (λ item. (statement item.now.stmt, item.now.at))

abbrev pub point_of : Point → points.Point
point_of p = record { part = p.part; note = noted p.note.now; next = next_of p.item }

abbrev pub points_of : List Point → List points.Point
points_of = map point_of

abbrev pub step_of : Step → steps.Step
step_of step = record { part = step.part; stmt = statement step.item.now.stmt; at = step.item.now.at }

abbrev pub steps_of : List Step → List steps.Step
steps_of = map step_of

-- the variables that a step uses in each way
abbrev pub AreAccesses : List steps.Step → ℕ → steps.Step → Accesses → Type 0
AreAccesses all n step a =
    (a.both.items ≡ steps.accessed all n step access.ReadsAndWrites)
    × (a.reads.items ≡ steps.accessed all n step access.Reads)
    × (a.writes.items ≡ steps.accessed all n step access.Writes)

abbrev pub move_of : Move → idioms.Move
move_of m = (m.var, m.form.now)

abbrev pub moves_of : List Move → List idioms.Move
moves_of = map move_of

-- ---- the addition at the end

-- these places and steps
abbrev pub Extends : Walk → Walk → List points.Point → List steps.Step → Type 0
Extends old new places more =
    (points_of new.points.items ≡ points_of old.points.items ++ places) × (steps_of new.steps.items ≡ steps_of old.steps.items ++ more)

abbrev pub Adds : Walk → Walk → Part → Sequence → Type 0
Adds old new part q = Extends old new (points.sequence_points part q) (steps.sequence_steps part q)

abbrev pub AddsItem : Walk → Walk → Part → Item → Type 0
AddsItem old new part item =
    Extends old new (points.item_points part (noted item.before) (statement item.stmt) item.at) (steps.item_steps part (statement item.stmt) item.at)

abbrev pub AddsMain : Walk → Walk → Part → Option Sequence → Type 0
AddsMain old new part q = Extends old new (of_main points.sequence_points part q) (of_main steps.sequence_steps part q)

abbrev pub AddsProcesses : Walk → Walk → ℕ → List Sequence → Type 0
AddsProcesses old new n qs = Extends old new (of_processes points.sequence_points n qs) (of_processes steps.sequence_steps n qs)

-- all of an outline
abbrev pub HasAll : Program → Walk → Type 0
HasAll o walk = (points_of walk.points.items ≡ points.points o) × (steps_of walk.steps.items ≡ steps.all_steps o)
