-- The tree of a program: its expressions in collected form, and no place in a source.
use Rattle.std.specs.Prelude.{ℕ, ℤ, pos, negsuc, List, [], ◌∷◌, ◌++◌, map, get_or, nat_abs, ◌==◌, if◌then◌else◌, option_map}
use Rattle.og_text.specs.declared.place.Span.{Span}
use Rattle.og_parse.specs.Language.{Placed}
use Rattle.og_parse.specs.declared.raw.Sign.{Sign}
use Rattle.og_parse.specs.declared.raw.Sign.TheVariants.{Plus, Minus}
use Rattle.og_parse.specs.declared.raw.RawName.{RawName}
use Rattle.og_parse.specs.declared.raw.RawFactor.{RawFactor}
use Rattle.og_parse.specs.declared.raw.RawFactor.TheVariants.{Number, Variable, Product}
use Rattle.og_parse.specs.declared.raw.RawTerm.{RawTerm}
use Rattle.og_parse.specs.declared.raw.Relation.{Relation}
use Rattle.og_parse.specs.declared.raw.Relation.TheVariants.{LessEqual, Equal, NotEqual}
use Rattle.og_parse.specs.Trees as tree
use Rattle.og_linear.specs.Linear.{FormValue}
use Rattle.og_typed.specs.Syntax.{Formula, True, False, Le, Eq, Ne, Not, And, Or, Imp, Formulas, none, more, Noted, Simple, Pass, Set, Statement, Skip, Assign, If, While, Await, Nothing, Else, Sequence, Last, Then, Program}

abbrev pub nowhere : Span
nowhere = record { start = 0; end = 0 }

abbrev pub placed : {A : Type 0} → A → Placed A
placed value = record { place = nowhere; value = value }

abbrev pub named : List ℕ → RawName
named name = record { name = name; span = nowhere }

-- ---- forms

abbrev pub sign : ℤ → Sign
sign (pos n) = Plus
sign (negsuc n) = Minus

-- x for 1*x
abbrev pub factor : ℕ → RawName → RawFactor
factor n x = if n == 1 then Variable x else Product n x

abbrev pub number : ℤ → RawTerm
number c = record { sign = sign c; factor = Number (nat_abs c) }

-- the constant after the terms, unless it is 0 and there are terms
abbrev pub with_constant : List RawTerm → ℤ → List RawTerm
with_constant [] c = number c ∷ []
with_constant (t ∷ ts) c = if nat_abs c == 0 then t ∷ ts else t ∷ ts ++ number c ∷ []

abbrev pub zero : tree.Sum
zero = placed (number (pos 0) ∷ [])

-- the names of the variables, by number
module _ (names : List (List ℕ)) where
  abbrev pub variable : ℕ → RawName
  variable x = named (get_or names x [])

  abbrev pub term : ℕ × ℤ → RawTerm
  term t = record { sign = sign t.1; factor = factor (nat_abs t.1) (variable t.0) }

  -- the terms in the order of the variables, and the constant
  abbrev pub sum : FormValue → tree.Sum
  sum f = placed (with_constant (map term f.terms) f.constant)

  -- ---- assertions

  -- a form compared with 0
  abbrev pub comparison : FormValue → Relation → tree.Assertion
  comparison f relation = tree.Comparison (sum f) relation zero

  abbrev mutual
    pub assertion : Formula → tree.Assertion
    assertion True = tree.Truth
    assertion False = tree.Falsity
    assertion (Le f) = comparison f LessEqual
    assertion (Eq f) = comparison f Equal
    assertion (Ne f) = comparison f NotEqual
    assertion (Not a) = tree.Negation (assertion a)
    assertion (And all) = tree.Conjunction (assertions all)
    assertion (Or all) = tree.Disjunction (assertions all)
    assertion (Imp a b) = tree.Implication (assertion a) (assertion b)

    pub assertions : Formulas → tree.Assertions
    assertions none = tree.none
    assertions (more a rest) = tree.more (assertion a) (assertions rest)

  abbrev pub note : Noted → tree.Note
  note n = placed (assertion n.assertion)

  -- ---- statements

  abbrev pub basic : Simple → tree.Basic
  basic Pass = tree.Skip
  basic (Set x f) = tree.Assign (variable x) (sum f)

  abbrev mutual
    pub statement : Statement → tree.Stmt
    statement Skip = tree.Simple tree.Skip
    statement (Assign x f) = tree.Simple (tree.Assign (variable x) (sum f))
    statement (If b branch Nothing) = tree.If (assertion b) (sequence branch)
    statement (If b branch (Else other)) = tree.IfElse (assertion b) (sequence branch) (sequence other)
    statement (While b body) = tree.While (assertion b) (sequence body)
    statement (Await b body) = tree.Await (assertion b) (map (λ s. placed (basic s)) body)

    pub sequence : Sequence → tree.Seq
    sequence (Last last) = tree.finish (note last)
    sequence (Then before stmt at rest) = tree.item (note before) nowhere (statement stmt) (sequence rest)

-- ---- programs

-- the tree of a program without auxiliaries
abbrev pub raw_of : Program → tree.Outline
raw_of program = record {
  vars = map named program.names;
  auxes = [];
  pre = note program.names program.pre;
  prologue = option_map (sequence program.names) program.prologue;
  cobegin = nowhere;
  processes = map (sequence program.names) program.processes;
  epilogue = option_map (sequence program.names) program.epilogue;
  post = note program.names program.post;
}
