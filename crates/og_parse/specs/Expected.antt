-- Which symbols may stand behind tokens.
use Rattle.std.specs.Prelude.{◌≡◌, Bool, false, ◌==◌, ◌<◌, ◌≤◌, List, [], ◌∷◌, ◌++◌, ◌⊎◌}
use Rattle.og_text.specs.Kinds.{number_of}
use Rattle.og_text.specs.declared.token.Token.{Token}
use Rattle.og_text.specs.declared.token.TokenKind.{TokenKind}
use Rattle.og_text.specs.declared.token.TokenKind.TheVariants as kinds
use Rattle.og_parse.specs.Fronts.{Begins}
use Rattle.og_parse.specs.declared.fault.ParseFault.{ParseFault}
use Rattle.og_parse.specs.declared.fault.ParseFault.TheVariants as faults
use Rattle.og_parse.specs.Trees.{Outline}
use Rattle.og_parse.specs.Grammar.{IsOutline}
use Rattle.og_parse.specs.Limits.{level_limit, statement_limit, statement_count}

-- an outline within the limit on levels begins with the tokens, and no more statements begin in them than there may be
pub record IsFront (tokens : List Token) : Type 0 where
  pub begins : Begins (IsOutline level_limit) tokens
  pub few : statement_count tokens ≤ statement_limit

-- the tokens are those of an outline within the limits
pub record IsWhole (tokens : List Token) : Type 0 where
  pub outline : Outline
  pub is : IsOutline level_limit outline tokens
  pub few : statement_count tokens ≤ statement_limit

-- a token of a kind, at the first byte
abbrev pub token_of : TokenKind → Token
token_of kind = record { kind = kind; span = record { start = 0; end = 1 } }

-- an outline goes on with a token of the kind after these
abbrev pub GoesOn : List Token → TokenKind → Type 0
GoesOn before kind = IsFront (before ++ token_of kind ∷ [])

-- a name, a number, and every keyword and symbol
unfoldable pub all_kinds : List TokenKind
all_kinds =
    kinds.Name [] ∷ kinds.Number 0
    ∷ kinds.Var ∷ kinds.Aux ∷ kinds.Cobegin ∷ kinds.Coend ∷ kinds.Await ∷ kinds.Then ∷ kinds.Begin ∷ kinds.End ∷ kinds.If ∷ kinds.Else ∷ kinds.While ∷ kinds.Do
    ∷ kinds.Skip ∷ kinds.True ∷ kinds.False ∷ kinds.Not ∷ kinds.And ∷ kinds.Or
    ∷ kinds.Assign ∷ kinds.Parallel ∷ kinds.LessEqual ∷ kinds.GreaterEqual ∷ kinds.NotEqual ∷ kinds.Less ∷ kinds.Greater ∷ kinds.Equal ∷ kinds.Plus ∷ kinds.Minus
    ∷ kinds.Arrow ∷ kinds.Star ∷ kinds.OpenParen ∷ kinds.CloseParen ∷ kinds.OpenBrace ∷ kinds.CloseBrace ∷ kinds.Semicolon ∷ kinds.Comma ∷ []

-- the list has those of the others of which P holds, in their order
abbrev pub AreThose : {X : Type 0} → (X → Type 0) → List X → List X → Type 0
AreThose P [] those = those ≡ []
AreThose {X} P (x ∷ xs) those = (P x × ((rest : List X) × (those ≡ x ∷ rest) × AreThose P xs rest)) ⊎ ((P x → ⊥) × AreThose P xs those)

-- every token holds some bytes
abbrev pub HoldsBytes : Token → Type 0
HoldsBytes token = token.span.start < token.span.end

-- the fault stands at no bytes
abbrev pub is_at_end : ParseFault → Bool
is_at_end (faults.Expected span) = span.start == span.end
is_at_end (faults.TooDeep span) = false
is_at_end (faults.TooManyStatements span) = false

-- as many tokens, each of the same kind as the other list's
abbrev pub AreAlike : List Token → List Token → Type 0
AreAlike [] [] = Unit {0}
AreAlike [] (u ∷ us) = ⊥
AreAlike (t ∷ ts) [] = ⊥
AreAlike (t ∷ ts) (u ∷ us) = (number_of t.kind ≡ number_of u.kind) × AreAlike ts us
