-- How a tree is printed, as its text or as the kinds of its lexemes alone.
use Rattle.std.specs.Prelude.{ℕ, Bool, true, false, nat_le, if◌then◌else◌, List, [], ◌∷◌, ◌++◌, map, Option, Some, None, codes}
use Rattle.std.specs.Fmt.{decimal}
use Rattle.og_text.specs.declared.token.TokenKind.{TokenKind}
use Rattle.og_text.specs.declared.token.TokenKind.TheVariants as kinds
use Rattle.og_text.specs.declared.token.Token.{Token}
use Rattle.og_text.specs.Lexemes.{text_of}
use Rattle.og_parse.specs.Language.{Placed}
use Rattle.og_parse.specs.declared.raw.RawName.{RawName}
use Rattle.og_parse.specs.declared.raw.RawAux.{RawAux}
use Rattle.og_parse.specs.declared.raw.Sign.{Sign}
use Rattle.og_parse.specs.declared.raw.Sign.TheVariants as signs
use Rattle.og_parse.specs.declared.raw.Relation.{Relation}
use Rattle.og_parse.specs.declared.raw.Relation.TheVariants as relations
use Rattle.og_parse.specs.declared.raw.RawFactor.{RawFactor}
use Rattle.og_parse.specs.declared.raw.RawFactor.TheVariants as factors
use Rattle.og_parse.specs.declared.raw.RawTerm.{RawTerm}
use Rattle.og_parse.specs.Trees.{Assertion, Assertions, Truth, Falsity, Comparison, Negation, Conjunction, Disjunction, Implication, none, more, Note, Basic, Skip, Assign, Stmt, Simple, If, IfElse, While, Await, Seq, item, finish, Outline}

-- one after the other
infixr 30 ◌&◌
abbrev pub ◌&◌ : {A : Type 0} → List A → List A → List A
xs & ys = xs ++ ys

-- The text of a lexeme, of the blank between two lexemes, of a line after its indentation, and of
-- an indentation that is one level deeper.
pub record Medium (A : Type 0) : Type 0 where
  pub word : TokenKind → List A
  pub blank : List A
  pub line : (indent contents : List A) → List A
  pub deeper : (indent : List A) → List A

-- ---- names for lexemes

abbrev pub sign_word : Sign → TokenKind
sign_word signs.Plus = kinds.Plus
sign_word signs.Minus = kinds.Minus

abbrev pub relation_word : Relation → TokenKind
relation_word relations.LessEqual = kinds.LessEqual
relation_word relations.Less = kinds.Less
relation_word relations.GreaterEqual = kinds.GreaterEqual
relation_word relations.Greater = kinds.Greater
relation_word relations.Equal = kinds.Equal
relation_word relations.NotEqual = kinds.NotEqual

-- how loosely an assertion binds: a unit, then `and`, then `or`, then `->`
abbrev pub looseness : Assertion → ℕ
looseness (Conjunction all) = 1
looseness (Disjunction all) = 2
looseness (Implication left right) = 3
looseness a = 0

module _ {A : Type 0} (m : Medium A) where
  -- ---- sums

  abbrev pub name_in : RawName → List A
  name_in x = m.word (kinds.Name x.name)

  -- a sign before a number or a first term: `-` or nothing
  abbrev pub leading_in : Sign → List A
  leading_in signs.Plus = []
  leading_in signs.Minus = m.word kinds.Minus

  abbrev pub factor_in : RawFactor → List A
  factor_in (factors.Number n) = m.word (kinds.Number n)
  factor_in (factors.Variable x) = name_in x
  factor_in (factors.Product n x) = m.word (kinds.Number n) & m.word kinds.Star & name_in x

  -- the terms after the first: ` + ` and ` - ` between them
  abbrev pub later_terms_in : List RawTerm → List A
  later_terms_in [] = []
  later_terms_in (t ∷ ts) = m.blank & m.word (sign_word t.sign) & m.blank & factor_in t.factor & later_terms_in ts

  abbrev pub terms_in : List RawTerm → List A
  terms_in [] = []
  terms_in (t ∷ ts) = leading_in t.sign & factor_in t.factor & later_terms_in ts

  -- ---- assertions

  -- an assertion where none may bind more loosely than this: in parentheses if it does
  abbrev pub fitted_in : ℕ → Assertion → List A → List A
  fitted_in limit a printed = if nat_le (looseness a) limit then printed else m.word kinds.OpenParen & printed & m.word kinds.CloseParen

  abbrev mutual
    pub assertion_in : Assertion → List A
    assertion_in Truth = m.word kinds.True
    assertion_in Falsity = m.word kinds.False
    assertion_in (Comparison left relation right) = terms_in left.value & m.blank & m.word (relation_word relation) & m.blank & terms_in right.value
    assertion_in (Negation a) = m.word kinds.Not & m.blank & fitted_in 0 a (assertion_in a)
    assertion_in (Conjunction all) = joined_in kinds.And 0 all
    assertion_in (Disjunction all) = joined_in kinds.Or 1 all
    assertion_in (Implication left right) = fitted_in 2 left (assertion_in left) & m.blank & m.word kinds.Arrow & m.blank & assertion_in right

    -- one after the other, with a word between any two
    pub joined_in : TokenKind → ℕ → Assertions → List A
    joined_in between limit none = []
    joined_in between limit (more a others) = fitted_in limit a (assertion_in a) & later_in between limit others

    -- those after the first
    pub later_in : TokenKind → ℕ → Assertions → List A
    later_in between limit none = []
    later_in between limit (more a others) = m.blank & m.word between & m.blank & fitted_in limit a (assertion_in a) & later_in between limit others

  -- ---- statements

  abbrev pub basic_in : Basic → List A
  basic_in Skip = m.word kinds.Skip
  basic_in (Assign x sum) = name_in x & m.blank & m.word kinds.Assign & m.blank & terms_in sum.value

  abbrev pub later_elements_in : List (Placed Basic) → List A
  later_elements_in [] = []
  later_elements_in (e ∷ es) = m.word kinds.Semicolon & m.blank & basic_in e.value & later_elements_in es

  -- the body of an await: one statement stands bare
  abbrev pub body_in : List (Placed Basic) → List A
  body_in [] = m.word kinds.Begin & m.blank & m.word kinds.End
  body_in (e ∷ []) = basic_in e.value
  body_in (e ∷ es) = m.word kinds.Begin & m.blank & basic_in e.value & later_elements_in es & m.blank & m.word kinds.End

  -- `;` where another statement follows
  abbrev pub separator_in : Seq → List A
  separator_in (finish last) = []
  separator_in (item before place stmt rest) = m.word kinds.Semicolon

  -- with the assertions of an outline; or without them as a program, which has `;` between statements in their place
  module _ (notes : Bool) where
    -- an assertion on a line of its own
    abbrev pub note_in : List A → Note → List A
    note_in indent note = if notes then m.line indent (m.word kinds.OpenBrace & assertion_in note.value & m.word kinds.CloseBrace) else []

    -- what ends a statement before the rest of its sequence
    abbrev pub ending_in : Seq → List A
    ending_in rest = if notes then [] else separator_in rest

    abbrev mutual
      pub stmt_in : List A → Stmt → List A → List A
      stmt_in indent (Simple basic) ending = m.line indent (basic_in basic & ending)
      stmt_in indent (If test first) ending =
          m.line indent (m.word kinds.If & m.blank & assertion_in test & m.blank & m.word kinds.Then & m.blank & m.word kinds.Begin)
          & seq_in (m.deeper indent) first
          & m.line indent (m.word kinds.End & ending)
      stmt_in indent (IfElse test first other) ending =
          m.line indent (m.word kinds.If & m.blank & assertion_in test & m.blank & m.word kinds.Then & m.blank & m.word kinds.Begin)
          & seq_in (m.deeper indent) first
          & m.line indent (m.word kinds.End & m.blank & m.word kinds.Else & m.blank & m.word kinds.Begin)
          & seq_in (m.deeper indent) other
          & m.line indent (m.word kinds.End & ending)
      stmt_in indent (While test body) ending =
          m.line indent (m.word kinds.While & m.blank & assertion_in test & m.blank & m.word kinds.Do & m.blank & m.word kinds.Begin)
          & seq_in (m.deeper indent) body
          & m.line indent (m.word kinds.End & ending)
      stmt_in indent (Await guard body) ending =
          m.line indent (m.word kinds.Await & m.blank & assertion_in guard & m.blank & m.word kinds.Then & m.blank & body_in body & ending)

      pub seq_in : List A → Seq → List A
      seq_in indent (finish last) = note_in indent last
      seq_in indent (item before place stmt rest) = note_in indent before & stmt_in indent stmt (ending_in rest) & seq_in indent rest

  -- ---- outlines

  abbrev pub later_names_in : List RawName → List A
  later_names_in [] = []
  later_names_in (x ∷ xs) = m.word kinds.Comma & m.blank & name_in x & later_names_in xs

  abbrev pub vars_in : List RawName → List A
  vars_in [] = []
  vars_in (x ∷ xs) = m.line [] (m.word kinds.Var & m.blank & name_in x & later_names_in xs & m.word kinds.Semicolon)

  abbrev pub aux_in : RawAux → List A
  aux_in a = name_in a.name & m.blank & m.word kinds.Equal & m.blank & leading_in a.value.sign & m.word (kinds.Number a.value.number)

  abbrev pub later_auxes_in : List RawAux → List A
  later_auxes_in [] = []
  later_auxes_in (a ∷ as') = m.word kinds.Comma & m.blank & aux_in a & later_auxes_in as'

  abbrev pub auxes_in : List RawAux → List A
  auxes_in [] = []
  auxes_in (a ∷ as') = m.line [] (m.word kinds.Aux & m.blank & aux_in a & later_auxes_in as' & m.word kinds.Semicolon)

  module _ (notes : Bool) where
    -- the statements before or after the processes
    abbrev pub main_in : Option Seq → List A
    main_in None = []
    main_in (Some s) = m.line [] (m.word kinds.Begin) & seq_in notes (m.deeper []) s & m.line [] (m.word kinds.End)

    -- the processes after the first, each after a line `//`
    abbrev pub later_processes_in : List Seq → List A
    later_processes_in [] = []
    later_processes_in (s ∷ ss) = m.line [] (m.word kinds.Parallel) & seq_in notes (m.deeper []) s & later_processes_in ss

    abbrev pub processes_in : List Seq → List A
    processes_in [] = []
    processes_in (s ∷ ss) = seq_in notes (m.deeper []) s & later_processes_in ss

    abbrev pub cobegin_in : List Seq → List A
    cobegin_in ss = m.line [] (m.word kinds.Cobegin) & processes_in ss & m.line [] (m.word kinds.Coend)

    abbrev pub outline_in : Outline → List A
    outline_in o =
        vars_in o.vars & auxes_in o.auxes
        & note_in notes [] o.pre
        & main_in o.prologue
        & cobegin_in o.processes
        & main_in o.epilogue
        & note_in notes [] o.post

-- ---- texts

-- how a lexeme is written
abbrev pub spelling : TokenKind → List ℕ
spelling (kinds.Number n) = decimal n
spelling kind = text_of kind

-- bytes: each line ends with LF, and a level has two blanks
abbrev pub written : Medium ℕ
written = record { word = spelling; blank = codes " "; line = λ indent printed. indent & printed & 10 ∷ []; deeper = λ indent. 32 ∷ 32 ∷ indent }

-- the kinds of the lexemes alone
abbrev pub alone : Medium TokenKind
alone = record { word = λ kind. kind ∷ []; blank = []; line = λ indent printed. printed; deeper = λ indent. indent }

abbrev pub kinds_of : List Token → List TokenKind
kinds_of tokens = map (λ (t : Token). t.kind) tokens

-- the lexemes of an outline, with its assertions
abbrev pub outline_words : Outline → List TokenKind
outline_words o = outline_in alone true o

-- the text of an outline, with its assertions
abbrev pub outline_text : Outline → List ℕ
outline_text o = outline_in written true o

-- the text of its program: no pre, no post and no assertions, but `;` between statements
abbrev pub program_text : Outline → List ℕ
program_text o = outline_in written false o
