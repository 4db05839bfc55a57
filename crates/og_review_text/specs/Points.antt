-- The places of a program at which assertions stand.
use Rattle.std.specs.Prelude.{ℕ, List, [], ◌∷◌, ◌++◌, Option, Some, None}
use Rattle.og_typed.specs.Syntax.{Noted, Statement, Skip, Assign, If, While, Await, Otherwise, Nothing, Else, Sequence, Last, Then, Program}
use Rattle.og_typed.specs.Sites.{of_program}
use Rattle.og_typed.specs.declared.sites.Part.{Part}

-- an assertion of a part of a program; and the statement behind it with its place, which the last one of a sequence lacks
pub record Point : Type 0 where
  pub part : Part
  pub note : Noted
  pub next : Option (Statement × ℕ)

-- those of a part, in text order
module _ (part : Part) where
  abbrev pub before_statement : Noted → Statement → ℕ → Point
  before_statement note stmt at = record { part = part; note = note; next = Some (stmt, at) }

  abbrev mutual
    pub sequence_points : Sequence → List Point
    sequence_points (Last note) = record { part = part; note = note; next = None } ∷ []
    sequence_points (Then before stmt at rest) = item_points before stmt at ++ sequence_points rest

    pub item_points : Noted → Statement → ℕ → List Point
    item_points before Skip at = before_statement before Skip at ∷ []
    item_points before (Assign x e) at = before_statement before (Assign x e) at ∷ []
    item_points before (If b branch other) at = before_statement before (If b branch other) at ∷ (sequence_points branch ++ else_points other)
    item_points before (While b body) at = before_statement before (While b body) at ∷ sequence_points body
    item_points before (Await b body) at = before_statement before (Await b body) at ∷ []

    pub else_points : Otherwise → List Point
    else_points Nothing = []
    else_points (Else branch) = sequence_points branch

-- all between the precondition and the postcondition
abbrev pub points : Program → List Point
points = of_program sequence_points
