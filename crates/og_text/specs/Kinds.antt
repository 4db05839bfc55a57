-- The kinds of tokens in order, by number: two kinds are alike where they have one number.
use Rattle.std.specs.Prelude.{ℕ}
use Rattle.og_text.specs.declared.token.TokenKind.{TokenKind}
use Rattle.og_text.specs.declared.token.TokenKind.TheVariants as kinds

-- the place of a kind among the kinds, from 0
abbrev pub number_of : TokenKind → ℕ
number_of (kinds.Name n) = 0
number_of (kinds.Number n) = 1
number_of kinds.Var = 2
number_of kinds.Aux = 3
number_of kinds.Cobegin = 4
number_of kinds.Coend = 5
number_of kinds.Await = 6
number_of kinds.Then = 7
number_of kinds.Begin = 8
number_of kinds.End = 9
number_of kinds.If = 10
number_of kinds.Else = 11
number_of kinds.While = 12
number_of kinds.Do = 13
number_of kinds.Skip = 14
number_of kinds.True = 15
number_of kinds.False = 16
number_of kinds.Not = 17
number_of kinds.And = 18
number_of kinds.Or = 19
number_of kinds.Assign = 20
number_of kinds.Parallel = 21
number_of kinds.LessEqual = 22
number_of kinds.GreaterEqual = 23
number_of kinds.NotEqual = 24
number_of kinds.Less = 25
number_of kinds.Greater = 26
number_of kinds.Equal = 27
number_of kinds.Plus = 28
number_of kinds.Minus = 29
number_of kinds.Arrow = 30
number_of kinds.Star = 31
number_of kinds.OpenParen = 32
number_of kinds.CloseParen = 33
number_of kinds.OpenBrace = 34
number_of kinds.CloseBrace = 35
number_of kinds.Semicolon = 36
number_of kinds.Comma = 37
