-- The statements of a process, with their assertions.
use Rattle.std.specs.Prelude.{ℕ, List, [], ◌∷◌, ◌++◌}
use Rattle.og_typed.specs.Syntax.{Noted, Statement, Skip, Assign, If, While, Await, Otherwise, Nothing, Else, Sequence, Last, Then}

-- the first assertion, which is the last one where there is no statement
abbrev pub first_of : Sequence → Noted
first_of (Last note) = note
first_of (Then before stmt at rest) = before

-- a statement with its place and the assertion before it
pub record Piece : Type 0 where
  pub before : Noted
  pub stmt : Statement
  pub at : ℕ

-- every statement outside await bodies, in text order
abbrev mutual
  pub pieces : Sequence → List Piece
  pieces (Last note) = []
  pieces (Then before stmt at rest) = record { before = before; stmt = stmt; at = at } ∷ (pieces_of_stmt stmt ++ pieces rest)

  pub pieces_of_stmt : Statement → List Piece
  pieces_of_stmt Skip = []
  pieces_of_stmt (Assign x e) = []
  pieces_of_stmt (If b branch other) = pieces branch ++ pieces_of_else other
  pieces_of_stmt (While b body) = pieces body
  pieces_of_stmt (Await b body) = []

  pub pieces_of_else : Otherwise → List Piece
  pieces_of_else Nothing = []
  pieces_of_else (Else branch) = pieces branch
