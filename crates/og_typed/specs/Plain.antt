-- The tree of each value of the program's types.
use Rattle.std.specs.Prelude.{ℕ, List, [], ◌∷◌, map}
use Rattle.og_typed.specs.declared.assertion.Assert.{Assert, Row_of-Assert, end_of-Assert, more_of-Assert}
use Rattle.og_typed.specs.declared.assertion.Assert as its
use Rattle.og_typed.specs.declared.statement.Note.{Note}
use Rattle.og_typed.specs.declared.statement.Basic.{Basic}
use Rattle.og_typed.specs.declared.statement.Basic.TheVariants as basic
use Rattle.og_typed.specs.declared.statement.Stmt.{Stmt, Held-Stmt-If-2, None', Some'}
use Rattle.og_typed.specs.declared.statement.Stmt as stmt
use Rattle.og_typed.specs.declared.statement.Item.{Item}
use Rattle.og_typed.specs.declared.statement.Seq.{Seq, Seq', Row_of-Item, end_of-Item, more_of-Item}
use Rattle.og_typed.specs.Syntax.{Formula, True, False, Le, Eq, Ne, Not, And, Or, Imp, Formulas, none, more, Noted, Simple, Pass, Set, Statement, Skip, Assign, If, While, Await, Otherwise, Nothing, Else, Sequence, Last, Then}

abbrev mutual
  pub formula : Assert → Formula
  formula its.True = True
  formula its.False = False
  formula (its.Le f) = Le f
  formula (its.Eq f) = Eq f
  formula (its.Ne f) = Ne f
  formula (its.Not' _ a) = Not (formula a)
  formula (its.And' _ all) = And (formulas all)
  formula (its.Or' _ all) = Or (formulas all)
  formula (its.Imp' _ a _ b) = Imp (formula a) (formula b)

  pub formulas : {n : _} → Row_of-Assert n → Formulas
  formulas end_of-Assert = none
  formulas (more_of-Assert a rest) = more (formula a) (formulas rest)

abbrev pub noted : Note → Noted
noted note = record { assertion = formula note.assertion; at = note.at }

abbrev pub simple : Basic → Simple
simple basic.Skip = Pass
simple (basic.Assign x e) = Set x e

abbrev mutual
  pub statement : Stmt → Statement
  statement stmt.Skip = Skip
  statement (stmt.Assign x e) = Assign x e
  statement (stmt.If' b _ branch other) = If (formula b) (sequence branch) (otherwise other)
  statement (stmt.While' b _ body) = While (formula b) (sequence body)
  statement (stmt.Await b body) = Await (formula b) (map simple body.items)

  pub otherwise : Held-Stmt-If-2 → Otherwise
  otherwise None' = Nothing
  otherwise (Some' _ branch) = Else (sequence branch)

  pub sequence : Seq → Sequence
  sequence (Seq' _ row last) = sequence_of row (noted last)

  pub sequence_of : {n : _} → Row_of-Item n → Noted → Sequence
  sequence_of end_of-Item last = Last last
  sequence_of (more_of-Item before stmt at rest) last = Then (noted before) (statement stmt) at (sequence_of rest last)

-- an item as the tree has it
abbrev pub item_of : Item → Noted × Statement × ℕ
item_of item = (noted item.before, statement item.stmt, item.at)

-- the assertion of the first item, or else the last one
abbrev pub first_or : List Item → Noted → Noted
first_or [] last = last
first_or (item ∷ items) last = noted item.before

-- an item as a rest has it
abbrev pub item_pair : Item → Formula × Statement
item_pair item = (formula item.before.assertion, statement item.stmt)
