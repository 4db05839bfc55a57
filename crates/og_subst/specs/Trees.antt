-- Actions as trees: one assignment, or the body of an await.
use Rattle.std.specs.Prelude.{ℕ, List, [], ◌∷◌}
use Rattle.og_linear.specs.Linear.{FormValue}
use Rattle.og_typed.specs.Syntax.{Simple, Set}

-- an action as a tree: one assignment, or the body of an await
pub data ActionTree : Type 0 where
  One : ℕ → FormValue → ActionTree
  Whole : List Simple → ActionTree

-- its assignments, in order
abbrev pub tree_body : ActionTree → List Simple
tree_body (One x e) = Set x e ∷ []
tree_body (Whole body) = body
