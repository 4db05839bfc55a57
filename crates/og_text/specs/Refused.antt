-- Why a text has no tokens: its fault.
use Rattle.std.specs.Prelude.{◌≡◌, ℕ, ◌+◌, ◌^◌, ◌<◌, ◌≤◌, List, [], ◌∷◌, length}
use Rattle.og_text.specs.declared.fault.LexFault.{LexFault}
use Rattle.og_text.specs.declared.fault.LexFault.TheVariants as faults
use Rattle.og_text.specs.declared.token.TokenKind.TheVariants as kinds
use Rattle.og_text.specs.Cut.{Piece, Lexeme, bytes_of, BeginsWith, IsLongest, IsCut, AreSmall}

-- no piece begins there
abbrev pub HasNoPiece : List ℕ → Type 0
HasNoPiece text = (piece : Piece) (rest : List ℕ) → BeginsWith text piece rest → ⊥

-- how many bytes the pieces have together
abbrev pub length_of : List Piece → ℕ
length_of [] = 0
length_of (piece ∷ pieces) = length (bytes_of piece) + length_of pieces

-- the cut of a text within its limit gets to this place over small pieces, and leaves the rest
pub record ComesTo (text : List ℕ) (at : ℕ) (rest : List ℕ) : Type 0 where
  pub short : length text ≤ 2 ^ 20
  pub pieces : List Piece
  pub cut : IsCut text pieces rest
  pub small : AreSmall pieces
  pub place : at ≡ length_of pieces

-- the cut gets to this place over small pieces, and this piece is next
pub record StandsAt (text : List ℕ) (at : ℕ) (piece : Piece) : Type 0 where
  pub rest : List ℕ
  pub comes : ComesTo text at rest
  pub after : List ℕ
  pub begins : BeginsWith rest piece after
  pub longest : IsLongest rest piece

-- the fault of a text: that of the whole, else the first one from the left
abbrev pub IsFaultOf : List ℕ → LexFault → Type 0
IsFaultOf text (faults.BadByte at) = (rest : List ℕ) × ComesTo text at rest × (0 < length rest) × HasNoPiece rest
IsFaultOf text (faults.NumberTooLarge at) = (n : ℕ) × (digits : List ℕ) × StandsAt text at (Lexeme (kinds.Number n) digits) × (2 ^ 63 < n)
IsFaultOf text (faults.NameTooLong at) = (word : List ℕ) × StandsAt text at (Lexeme (kinds.Name word) word) × (64 < length word)
IsFaultOf text faults.SourceTooLong = 2 ^ 20 < length text
