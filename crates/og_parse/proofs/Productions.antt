-- Parts of the grammar by names, for the proofs about them.
use Rattle.std.proofs.Common.{ℕ, List, [], ◌∷◌}
use Rattle.og_text.specs.declared.token.TokenKind.TheVariants as kinds
use Rattle.og_parse.specs.Language.{Language, Placed, After, Word, Map, Before, Between, Separated}
use Rattle.og_parse.specs.Trees.{Assertion, Truth, Falsity, Negation, Implication, Basic, Skip, Stmt, Simple, Seq}
use Rattle.og_parse.specs.Grammar.{IsAssertion, IsBasic, IsElement}

abbrev pub IsTruth : Language Assertion
IsTruth = Word kinds.True Truth

abbrev pub IsFalsity : Language Assertion
IsFalsity = Word kinds.False Falsity

abbrev pub IsNegation : Language Assertion → Language Assertion
IsNegation unit = After kinds.Not (Map Negation unit)

abbrev pub IsInParens : Language Assertion → Language Assertion
IsInParens assertion = Between kinds.OpenParen assertion kinds.CloseParen

abbrev pub IsImplied : Language Assertion → Assertion → Language Assertion
IsImplied assertion left = After kinds.Arrow (Map (Implication left) assertion)

abbrev pub IsBraced : ℕ → Language Assertion
IsBraced n = Between kinds.OpenBrace (IsAssertion n) kinds.CloseBrace

abbrev pub IsSkip : Language Basic
IsSkip = Word kinds.Skip Skip

abbrev pub IsElements : Language (List (Placed Basic))
IsElements = Between kinds.Begin (Separated kinds.Semicolon IsElement) kinds.End

abbrev pub IsBareElement : Language (List (Placed Basic))
IsBareElement = Map (λ element. element ∷ []) IsElement

abbrev pub IsSimple : Language Stmt
IsSimple = Map Simple IsBasic

abbrev pub IsRestOfBlock : Language Seq → Language Seq
IsRestOfBlock seq = Before seq kinds.End
