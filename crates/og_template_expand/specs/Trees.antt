-- Templates as trees, without where they lie in memory.
use Rattle.std.specs.Prelude.{ℕ, List, Option}
use Rattle.og_text.specs.declared.place.Span.{Span}
use Rattle.og_parse.specs.declared.raw.RawName.{RawName}
use Rattle.og_parse.specs.declared.raw.Relation.{Relation}
use Rattle.og_parse.specs.declared.raw.Sign.{Sign}
use Rattle.og_parse.specs.Language.{Placed}
use Rattle.og_template.specs.declared.tree.Operator.{Operator}

-- ---- expressions, ranges

mutual
  pub data Expression : Type 0 where
    Number : ℕ → Span → Expression
    Negative : ℕ → Span → Expression
    Name : RawName → Expression
    Minus : Expression → Span → Expression
    Chain : Expression → Links → Expression

  -- operators of one rank, each with its right operand
  pub data Links : Type 0 where
    no_link : Links
    link : Operator → Span → Expression → Links → Links

pub record Bounds : Type 0 where
  pub low : Expression
  pub high : Expression
  pub place : Span

pub record Test : Type 0 where
  pub left : Expression
  pub relation : Relation
  pub right : Expression

pub record Binder : Type 0 where
  pub name : RawName
  pub range : Bounds
  pub tests : List Test

-- ---- sums

pub data Factor : Type 0 where
  Numeral : ℕ → Factor
  Bracketed : Expression → Factor
  Named : RawName → Factor
  Element : RawName → Expression → Factor
  Applied : RawName → List Expression → Factor

mutual
  pub data Kind : Type 0 where
    Single : Factor → Kind
    Product : Factor → Factor → Kind
    Total : Binder → Terms → Kind

  pub data Terms : Type 0 where
    no_term : Terms
    term : Sign → Span → Kind → Terms → Terms

abbrev pub Sum : Type 0
Sum = Placed Terms

-- ---- assertions

mutual
  pub data Assertion : Type 0 where
    Alone : Disjunction → Assertion
    Implies : Disjunction → Span → Assertion → Assertion

  pub data Disjunction : Type 0 where
    no_part : Disjunction
    part : Conjunction → Disjunction → Disjunction

  pub data Conjunction : Type 0 where
    no_unit : Conjunction
    unit : Unit → Conjunction → Conjunction

  pub data Unit : Type 0 where
    Truth : Span → Unit
    Falsity : Span → Unit
    Comparison : Sum → Relation → Sum → Unit
    Use : RawName → List Expression → Unit
    Not : Span → Unit → Unit
    Group : Span → Assertion → Unit
    All : Span → Binder → Unit → Unit
    Any : Span → Binder → Unit → Unit

pub record Definition : Type 0 where
  pub name : RawName
  pub parameters : List RawName
  pub assertion : Assertion

abbrev pub Note : Type 0
Note = Placed Assertion

-- ---- statements

pub data Basic : Type 0 where
  Skip : Basic
  Assign : RawName → Option Expression → Sum → Basic

-- a statement in the body of an await, once or for each value of a binder
pub record Simple : Type 0 where
  pub binder : Option Binder
  pub basic : Basic
  pub place : Span

mutual
  pub data Statement : Type 0 where
    Once : Basic → Statement
    If : Assertion → Sequence → Statement
    IfElse : Assertion → Sequence → Sequence → Statement
    While : Assertion → Sequence → Statement
    Await : Assertion → List Simple → Statement

  -- a statement with its place and the assertion after it, or steps for each value of a binder
  pub data Step : Type 0 where
    Stated : Statement → Span → Note → Step
    Repeated : Binder → Steps → Step

  pub data Steps : Type 0 where
    no_step : Steps
    step : Step → Steps → Steps

  pub data Sequence : Type 0 where
    sequence : Note → Steps → Sequence

-- ---- templates

pub record Constant : Type 0 where
  pub name : RawName
  pub value : Expression

pub record Variable : Type 0 where
  pub name : RawName
  pub family : Option Bounds

pub record Auxiliary : Type 0 where
  pub name : RawName
  pub family : Option Bounds
  pub value : Expression

pub record Process : Type 0 where
  pub binder : Option Binder
  pub body : Sequence

pub record Template : Type 0 where
  pub constants : List Constant
  pub variables : List Variable
  pub auxiliaries : List Auxiliary
  pub named : List Definition
  pub pre : Note
  pub prologue : Option Sequence
  pub cobegin : Span
  pub processes : List Process
  pub epilogue : Option Sequence
  pub post : Note
