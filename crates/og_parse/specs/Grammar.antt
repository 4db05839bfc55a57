-- The grammar. A list of tokens stands for a tree where these say so.
use Rattle.std.specs.Prelude.{ℕ, zero, suc, Bool, true, false, List, [], ◌∷◌, Option, Some, None, unwrap_or}
use Rattle.og_text.specs.declared.token.TokenKind.TheVariants as kinds
use Rattle.og_parse.specs.Language.{Language, Placed, Symbol, One, Gives, ◌>>=◌, Either, Allowed, Many, After, Word, Map, Before, Between, Separated, IfSymbol, WithPlace, Never}
use Rattle.og_parse.specs.declared.raw.RawFactor.TheVariants.{Number, Variable, Product}
use Rattle.og_parse.specs.Trees.{RawName, RawAux, RawInt, Sign, Plus, Minus, RawFactor, RawTerm, Sum, Assertion, Truth, Falsity, Comparison, Negation, Implication, conjunction, disjunction, Note, Basic, Skip, Assign, Stmt, Simple, While, Await, choice, Step, sequence, Seq, Outline}
use Rattle.og_parse.specs.Words.{name_of, value_of, sign_of, relation_of}

-- ---- expr, term, int

-- [ '-' ]
abbrev pub IsLeading : Language Sign
IsLeading = Either (Word kinds.Minus Minus) (Gives Plus)

-- a number, times a name where there is one
abbrev pub product : ℕ → Option RawName → RawFactor
product n None = Number n
product n (Some name) = Product n name

abbrev pub IsProduct : Language RawFactor
IsProduct = do
  n ← One value_of
  Map (product n) (IfSymbol kinds.Star (One name_of))

abbrev pub IsFactor : Language RawFactor
IsFactor = Either (Map Variable (One name_of)) IsProduct

abbrev pub term : Sign → RawFactor → RawTerm
term sign factor = record { sign = sign; factor = factor }

abbrev pub IsTermAfter : Language RawTerm
IsTermAfter = do
  sign ← One sign_of
  Map (term sign) IsFactor

abbrev pub IsTerms : Language (List RawTerm)
IsTerms = do
  sign ← IsLeading
  factor ← IsFactor
  others ← Many IsTermAfter
  Gives (term sign factor ∷ others)

abbrev pub IsSum : Language Sum
IsSum = WithPlace IsTerms

abbrev pub IsSigned : Language (Sign × ℕ)
IsSigned = do
  sign ← IsLeading
  Map (λ n. (sign, n)) (One value_of)

abbrev pub IsInt : Language RawInt
IsInt = Map (λ signed. record { sign = signed.value.0; number = signed.value.1; span = signed.place }) (WithPlace IsSigned)

-- ---- assert

abbrev pub IsComparison : Language Assertion
IsComparison = do
  left ← IsSum
  relation ← One relation_of
  Map (Comparison left relation) IsSum

-- what opens a level: 'not' unit and '(' assert ')'; and '->' assert, after what stands on its left
pub record Openings : Type 1 where
  pub prefix : Language Assertion
  pub implied : Assertion → Language Assertion

module _ (openings : Openings) where
  abbrev pub IsUnitWith : Language Assertion
  IsUnitWith = Either openings.prefix (Either (Word kinds.True Truth) (Either (Word kinds.False Falsity) IsComparison))

  abbrev pub IsConjunctionWith : Language Assertion
  IsConjunctionWith = Map conjunction (Separated kinds.And IsUnitWith)

  abbrev pub IsDisjunctionWith : Language Assertion
  IsDisjunctionWith = Map disjunction (Separated kinds.Or IsConjunctionWith)

  abbrev pub IsAssertionWith : Language Assertion
  IsAssertionWith = do
    left ← IsDisjunctionWith
    Either (openings.implied left) (Gives left)

-- the openings where at most this many levels may be open
abbrev pub openings : ℕ → Openings
openings zero = record { prefix = Never; implied = λ left. Never }
openings (suc n) = record {
  prefix = Either (After kinds.Not (Map Negation (IsUnitWith (openings n)))) (Between kinds.OpenParen (IsAssertionWith (openings n)) kinds.CloseParen);
  implied = λ left. After kinds.Arrow (Map (Implication left) (IsAssertionWith (openings n)));
}

-- an assertion with at most n levels
abbrev pub IsAssertion : ℕ → Language Assertion
IsAssertion n = IsAssertionWith (openings n)

abbrev pub IsNote : ℕ → Language Note
IsNote n = WithPlace (Between kinds.OpenBrace (IsAssertion n) kinds.CloseBrace)

-- ---- basic, body

abbrev pub IsAssignment : Language Basic
IsAssignment = do
  name ← One name_of
  After kinds.Assign (Map (Assign name) IsSum)

abbrev pub IsBasic : Language Basic
IsBasic = Either (Word kinds.Skip Skip) IsAssignment

abbrev pub IsElement : Language (Placed Basic)
IsElement = WithPlace IsBasic

abbrev pub IsBody : Language (List (Placed Basic))
IsBody = Either (Between kinds.Begin (Separated kinds.Semicolon IsElement) kinds.End) (Map (λ element. element ∷ []) IsElement)

-- ---- stmt, block, seq: n levels of assertions, and an await where it is allowed

abbrev pub IsAwait : ℕ → Language Stmt
IsAwait n = do
  word ← Symbol kinds.Await
  guard ← IsAssertion n
  After kinds.Then (Map (Await guard) IsBody)

abbrev pub IsBlock : Language Seq → Language Seq
IsBlock seq = Between kinds.Begin seq kinds.End

abbrev pub IsIf : ℕ → Language Seq → Language Stmt
IsIf n seq = do
  word ← Symbol kinds.If
  test ← IsAssertion n
  then_at ← Symbol kinds.Then
  branch ← IsBlock seq
  other ← IfSymbol kinds.Else (IsBlock seq)
  Gives (choice test branch other)

abbrev pub IsWhile : ℕ → Language Seq → Language Stmt
IsWhile n seq = do
  word ← Symbol kinds.While
  test ← IsAssertion n
  After kinds.Do (Map (While test) (IsBlock seq))

module _ (n : ℕ) (awaits : Bool) where
  -- with the statements that open a level
  module _ (compound : Language Stmt) where
    abbrev pub IsStmtWith : Language Stmt
    IsStmtWith = Either compound (Either (Allowed awaits (IsAwait n)) (Map Simple IsBasic))

    abbrev pub IsStepWith : Language Step
    IsStepWith = do
      stmt ← WithPlace IsStmtWith
      after ← IsNote n
      Gives (record { stmt = stmt; after = after })

    abbrev pub IsSeqWith : Language Seq
    IsSeqWith = do
      before ← IsNote n
      first ← IsStepWith
      others ← Many IsStepWith
      Gives (sequence before (first ∷ others))

  -- the statements that open a level, where at most this many may be open
  abbrev pub compounds : ℕ → Language Stmt
  compounds zero = Never
  compounds (suc k) = Either (IsIf n (IsSeqWith (compounds k))) (IsWhile n (IsSeqWith (compounds k)))

  -- a sequence with at most k levels of 'if' and 'while'
  abbrev pub IsSeq : ℕ → Language Seq
  IsSeq k = IsSeqWith (compounds k)

-- ---- outline

abbrev pub IsAux : Language RawAux
IsAux = do
  name ← One name_of
  After kinds.Equal (Map (λ value. record { name = name; value = value }) IsInt)

-- what stands after 'var' or 'aux'
abbrev pub IsListed : {X : Type 0} → Language X → Language (List X)
IsListed each = Before (Separated kinds.Comma each) kinds.Semicolon

-- [ 'begin' seq 'end' ], without an await
abbrev pub IsMain : ℕ → Language (Option Seq)
IsMain n = IfSymbol kinds.Begin (Before (IsSeq n false n) kinds.End)

-- an outline with at most n levels of assertions, and n of statements
abbrev pub IsOutline : ℕ → Language Outline
IsOutline n = do
  vars ← IfSymbol kinds.Var (IsListed (One name_of))
  auxes ← IfSymbol kinds.Aux (IsListed IsAux)
  pre ← IsNote n
  prologue ← IsMain n
  cobegin ← Symbol kinds.Cobegin
  processes ← Separated kinds.Parallel (IsSeq n true n)
  coend ← Symbol kinds.Coend
  epilogue ← IsMain n
  post ← IsNote n
  Gives (record { vars = unwrap_or vars []; auxes = unwrap_or auxes []; pre = pre; prologue = prologue; cobegin = cobegin; processes = processes; epilogue = epilogue; post = post })
