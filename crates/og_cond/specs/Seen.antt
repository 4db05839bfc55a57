-- The condition that a value of the program's type stands for.
use Rattle.std.specs.Prelude.{◌≡◌, ℕ, List, [], ◌∷◌, ◌++◌, map, Option, Some, None, option_map, Vec}
use Rattle.std.specs.Global.{Global}
use Rattle.og_typed.specs.Plain.{formula}
use Rattle.og_typed.specs.declared.assertion.Assert.{Assert}
use Rattle.og_subst.specs.Actions.{action_tree}
use Rattle.og_subst.specs.Trees.{ActionTree}
use Rattle.og_cond.specs.declared.kind.Kind.{Kind}
use Rattle.og_cond.specs.declared.condition.Part.{Part}
use Rattle.og_cond.specs.declared.condition.Part.TheVariants as part
use Rattle.og_cond.specs.declared.condition.Hypothesis.{Hypothesis}
use Rattle.og_cond.specs.declared.condition.Hypothesis.TheVariants as hypothesis
use Rattle.og_cond.specs.declared.condition.Goal.{Goal}
use Rattle.og_cond.specs.declared.condition.Goal.TheVariants as goal
use Rattle.og_cond.specs.declared.condition.Condition.{Condition}
use Rattle.og_cond.specs.Condition as plain
use denote.Ref.{Bor}

abbrev pub part_of : Part → plain.Part
part_of (part.Yes a) = plain.Yes (formula a.now)
part_of (part.No a) = plain.No (formula a.now)

abbrev pub parts_of : Vec Part Global → List plain.Part
parts_of parts = map part_of parts.items

abbrev pub hypothesis_of : Hypothesis → plain.Hypothesis
hypothesis_of (hypothesis.Is p) = plain.Is (part_of p)
hypothesis_of (hypothesis.Starts x v) = plain.Starts x v
hypothesis_of (hypothesis.OneOf parts) = plain.OneOf (map parts_of parts.items)

abbrev pub goal_of : Goal → plain.Goal
goal_of (goal.Holds a) = plain.Holds (formula a.now)
goal_of goal.Fits = plain.Fits
goal_of goal.Never = plain.Never

abbrev pub seen : Condition → plain.Condition
seen c = record {
  kind = c.kind;
  at = c.at;
  action_at = c.action_at;
  variables = c.variables;
  hypotheses = map hypothesis_of c.hypotheses.items;
  action = option_map action_tree c.action;
  goal = goal_of c.goal;
}

-- a condition that is not about interference
abbrev pub claim : Kind → ℕ → ℕ → List plain.Hypothesis → Option ActionTree → plain.Goal → plain.Condition
claim kind at variables hypotheses action goal = record {
  kind = kind;
  at = at;
  action_at = None;
  variables = variables;
  hypotheses = hypotheses;
  action = action;
  goal = goal;
}

-- the new list is the old one, with these conditions at its end
abbrev pub Adds : Vec Condition Global → Vec Condition Global → List plain.Condition → Type 0
Adds old new more = map seen new.items ≡ map seen old.items ++ more

-- one assertion, or two
abbrev pub given : Part → Option Part → List plain.Hypothesis
given first None = plain.Is (part_of first) ∷ []
given first (Some second) = plain.Is (part_of first) ∷ plain.Is (part_of second) ∷ []

-- the assertion before an action, and the guard of an await
abbrev pub guarded : Bor Assert → Option (Bor Assert) → List plain.Hypothesis
guarded before None = plain.Is (plain.Yes (formula before.now)) ∷ []
guarded before (Some guard) = plain.Is (plain.Yes (formula before.now)) ∷ plain.Is (plain.Yes (formula guard.now)) ∷ []
