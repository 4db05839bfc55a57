-- Actions: what one step of a process assigns.
use Rattle.std.specs.Prelude.{ℕ, ℤ, List, [], ◌∷◌, Bool, false, ◌||◌, ◌==◌, Option, Some, None, map, option_map}
use Rattle.og_linear.specs.Linear.{put, val}
use Rattle.og_typed.specs.Syntax.{Simple, Pass, Set, Statement, Assign, Await}
use Rattle.og_typed.specs.Plain.{simple}
use Rattle.og_subst.specs.declared.action.Action.{Action}
use Rattle.og_subst.specs.declared.action.Action.TheVariants as actions
use Rattle.og_subst.specs.Trees.{ActionTree, One, Whole, tree_body}

abbrev pub action_tree : Action → ActionTree
action_tree (actions.Assign x e) = One x e.now
action_tree (actions.Await body) = Whole (map simple body.now)

abbrev pub action_body : Action → List Simple
action_body action = tree_body (action_tree action)

-- the action of a statement, if it is an assignment or an await
abbrev pub stmt_action : Statement → Option ActionTree
stmt_action (Assign x e) = Some (One x e)
stmt_action (Await b body) = Some (Whole body)
stmt_action _ = None

abbrev pub stmt_body : Statement → Option (List Simple)
stmt_body stmt = option_map tree_body (stmt_action stmt)

-- the variable x is assigned
abbrev pub assigns : ℕ → List Simple → Bool
assigns x [] = false
assigns x (Pass ∷ rest) = assigns x rest
assigns x (Set y e ∷ rest) = x == y || assigns x rest

-- the values that are assigned, in order, from the state s
abbrev pub assigned_values : List Simple → List ℤ → List ℤ
assigned_values [] s = []
assigned_values (Pass ∷ rest) s = assigned_values rest s
assigned_values (Set x e ∷ rest) s = val e s ∷ assigned_values rest (put s x (val e s))
