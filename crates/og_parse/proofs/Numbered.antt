-- A keyword or symbol is the kind that its number says.
use Rattle.std.proofs.Common.{◌≡◌, ◌∙◌, ℕ, Bool, true, List, [], ◌∷◌, nat_le, sym, ap, refl}
use Rattle.std.specs.Prelude.{Option, Some, slice_get, unwrap_or}
use Rattle.og_text.specs.Kinds.{number_of}
use Rattle.og_text.specs.declared.token.TokenKind.{TokenKind}
use Rattle.og_text.specs.declared.token.TokenKind.TheVariants as kinds

-- neither a name nor a number
abbrev pub is_symbol : TokenKind → Bool
is_symbol kind = nat_le 2 (number_of kind)

-- the keywords and symbols at their numbers; nothing is said of the first two
by_number : List TokenKind
by_number = kinds.Number 0 ∷ kinds.Number 0 ∷ kinds.Var ∷ kinds.Aux ∷ kinds.Cobegin ∷ kinds.Coend ∷ kinds.Await ∷ kinds.Then ∷ kinds.Begin ∷ kinds.End ∷ kinds.If ∷ kinds.Else
    ∷ kinds.While ∷ kinds.Do ∷ kinds.Skip ∷ kinds.True ∷ kinds.False ∷ kinds.Not ∷ kinds.And ∷ kinds.Or ∷ kinds.Assign ∷ kinds.Parallel ∷ kinds.LessEqual ∷ kinds.GreaterEqual
    ∷ kinds.NotEqual ∷ kinds.Less ∷ kinds.Greater ∷ kinds.Equal ∷ kinds.Plus ∷ kinds.Minus ∷ kinds.Arrow ∷ kinds.Star ∷ kinds.OpenParen ∷ kinds.CloseParen ∷ kinds.OpenBrace
    ∷ kinds.CloseBrace ∷ kinds.Semicolon ∷ kinds.Comma ∷ []

at_number : (kind : TokenKind) → is_symbol kind ≡ true → slice_get by_number (number_of kind) ≡ Some kind
unfolding by_number
at_number (kinds.Name name) h = absurd cc
at_number (kinds.Number n) h = absurd cc
at_number kind h = refl

pub same_kind : (kind other : TokenKind) → is_symbol kind ≡ true → number_of other ≡ number_of kind → other ≡ kind
same_kind kind other symbolic same =
    ap (λ (it : Option TokenKind). unwrap_or it kind) (sym (at_number other (ap (nat_le 2) same ∙ symbolic)) ∙ ap (slice_get by_number) same ∙ at_number kind symbolic)
