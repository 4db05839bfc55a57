-- Trees, without where they lie in memory.
use Rattle.std.specs.Prelude.{List, [], ◌∷◌, Option, Some, None}
use Rattle.og_text.specs.declared.place.Span.{Span}
use Rattle.og_parse.specs.Language.{Placed}
pub use Rattle.og_parse.specs.declared.raw.RawName.{RawName}
pub use Rattle.og_parse.specs.declared.raw.RawAux.{RawAux}
pub use Rattle.og_parse.specs.declared.raw.RawInt.{RawInt}
pub use Rattle.og_parse.specs.declared.raw.RawTerm.{RawTerm}
pub use Rattle.og_parse.specs.declared.raw.RawFactor.{RawFactor}
pub use Rattle.og_parse.specs.declared.raw.Sign.{Sign}
pub use Rattle.og_parse.specs.declared.raw.Sign.TheVariants.{Plus, Minus}
pub use Rattle.og_parse.specs.declared.raw.Relation.{Relation}

-- ---- sums and assertions

abbrev pub Sum : Type 0
Sum = Placed (List RawTerm)

mutual
  pub data Assertion : Type 0 where
    Truth : Assertion
    Falsity : Assertion
    Comparison : (left : Sum) (relation : Relation) (right : Sum) → Assertion
    Negation : Assertion → Assertion
    Conjunction : Assertions → Assertion
    Disjunction : Assertions → Assertion
    Implication : (left right : Assertion) → Assertion

  pub data Assertions : Type 0 where
    none : Assertions
    more : Assertion → Assertions → Assertions

abbrev pub Note : Type 0
Note = Placed Assertion

abbrev pub listed : List Assertion → Assertions
listed [] = none
listed (a ∷ rest) = more a (listed rest)

-- a list of one is its element
abbrev pub conjunction : List Assertion → Assertion
conjunction (a ∷ []) = a
conjunction all = Conjunction (listed all)

abbrev pub disjunction : List Assertion → Assertion
disjunction (a ∷ []) = a
disjunction all = Disjunction (listed all)

-- ---- statements

pub data Basic : Type 0 where
  Skip : Basic
  Assign : (name : RawName) (sum : Sum) → Basic

mutual
  pub data Stmt : Type 0 where
    Simple : Basic → Stmt
    If : (test : Assertion) (then : Seq) → Stmt
    IfElse : (test : Assertion) (then other : Seq) → Stmt
    While : (test : Assertion) (body : Seq) → Stmt
    Await : (guard : Assertion) (body : List (Placed Basic)) → Stmt

  -- a statement after its assertion, with its place, and the rest; or the last assertion
  pub data Seq : Type 0 where
    item : (before : Note) (place : Span) (stmt : Stmt) (rest : Seq) → Seq
    finish : (last : Note) → Seq

abbrev pub choice : Assertion → Seq → Option Seq → Stmt
choice test then None = If test then
choice test then (Some other) = IfElse test then other

-- a statement with the assertions on both sides is put together from the left
pub record Step : Type 0 where
  pub stmt : Placed Stmt
  pub after : Note

abbrev pub sequence : Note → List Step → Seq
sequence before [] = finish before
sequence before (step ∷ steps) = item before step.stmt.place step.stmt.value (sequence step.after steps)

-- ---- outlines

pub record Outline : Type 0 where
  pub vars : List RawName
  pub auxes : List RawAux
  pub pre : Note
  pub prologue : Option Seq
  pub cobegin : Span
  pub processes : List Seq
  pub epilogue : Option Seq
  pub post : Note
