-- The one cut of a text into white space, comments and lexemes.
use Rattle.std.specs.Prelude.{◌≡◌, ℕ, ◌+◌, ◌^◌, ◌≤◌, List, [], ◌∷◌, ◌++◌, length}
use Rattle.og_text.specs.declared.token.TokenKind.{TokenKind}
use Rattle.og_text.specs.declared.token.TokenKind.TheVariants as kinds
use Rattle.og_text.specs.declared.token.Token.{Token}
use Rattle.og_text.specs.Lexemes.{IsWhite, IsComment, Spells}

-- a piece of a text: white space, a comment, or a lexeme of some kind
pub data Piece : Type 0 where
  White : (bytes : List ℕ) → Piece
  Comment : (bytes : List ℕ) → Piece
  Lexeme : (kind : TokenKind) (bytes : List ℕ) → Piece

-- the bytes of a piece
abbrev pub bytes_of : Piece → List ℕ
bytes_of (White bytes) = bytes
bytes_of (Comment bytes) = bytes
bytes_of (Lexeme kind bytes) = bytes

-- the bytes are those of a piece of its sort
abbrev pub IsPiece : Piece → Type 0
IsPiece (White bytes) = IsWhite bytes
IsPiece (Comment bytes) = IsComment bytes
IsPiece (Lexeme kind bytes) = Spells kind bytes

-- a text begins with the bytes of a piece
pub record BeginsWith (text : List ℕ) (piece : Piece) (rest : List ℕ) : Type 0 where
  pub is_piece : IsPiece piece
  pub parts : text ≡ bytes_of piece ++ rest

-- no piece there is longer
abbrev pub IsLongest : List ℕ → Piece → Type 0
IsLongest text piece = (other : Piece) (rest : List ℕ) → BeginsWith text other rest → length (bytes_of other) ≤ length (bytes_of piece)

-- the pieces are cut from the text one after the other, each the longest at its place, and leave the rest
abbrev pub IsCut : List ℕ → List Piece → List ℕ → Type 0
IsCut text [] rest = text ≡ rest
IsCut text (piece ∷ pieces) rest = (after : List ℕ) × BeginsWith text piece after × IsLongest text piece × IsCut after pieces rest

-- the lexemes among the pieces, which begin at a place, with where they stand
abbrev pub tokens_of : ℕ → List Piece → List Token
tokens_of at [] = []
tokens_of at (White bytes ∷ pieces) = tokens_of (at + length bytes) pieces
tokens_of at (Comment bytes ∷ pieces) = tokens_of (at + length bytes) pieces
tokens_of at (Lexeme kind bytes ∷ pieces) = record { kind = kind; span = record { start = at; end = at + length bytes } } ∷ tokens_of (at + length bytes) pieces

-- a number up to 2 ^ 63, or another lexeme of at most 64 bytes
abbrev pub IsSmall : Piece → Type 0
IsSmall (White bytes) = Unit {0}
IsSmall (Comment bytes) = Unit {0}
IsSmall (Lexeme (kinds.Number n) digits) = n ≤ 2 ^ 63
IsSmall (Lexeme kind bytes) = length bytes ≤ 64

-- all the pieces are small
abbrev pub AreSmall : List Piece → Type 0
AreSmall [] = Unit {0}
AreSmall (piece ∷ pieces) = IsSmall piece × AreSmall pieces

-- a text within its limit is cut into small pieces, and these are its lexemes
pub record AreTokensOf (text : List ℕ) (tokens : List Token) : Type 0 where
  pub short : length text ≤ 2 ^ 20
  pub pieces : List Piece
  pub cut : IsCut text pieces []
  pub small : AreSmall pieces
  pub lexemes : tokens ≡ tokens_of 0 pieces
