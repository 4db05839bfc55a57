-- What stands at the front of a text: the words of the contracts of private functions.
use Rattle.std.specs.Prelude.{◌≡◌, ℕ, ◌^◌, ◌<◌, ◌≤◌, ◌==◌, false, List, [], ◌∷◌, length, drop, Option}
use Rattle.og_text.specs.declared.front.Front.{Front}
use Rattle.og_text.specs.declared.front.Front.TheVariants as fronts
use Rattle.og_text.specs.declared.token.TokenKind.{TokenKind}
use Rattle.og_text.specs.declared.token.TokenKind.TheVariants as kinds
use Rattle.og_text.specs.Lexemes.{is_white, is_digit, is_letter, written_so}
use Rattle.og_text.specs.Cut.{Piece, White, Comment, Lexeme, bytes_of, BeginsWith, IsLongest, IsSmall}
use Rattle.og_text.specs.Refused.{HasNoPiece}

-- the symbols of two bytes
abbrev pub pairs : List TokenKind
pairs = kinds.Assign ∷ kinds.Parallel ∷ kinds.LessEqual ∷ kinds.GreaterEqual ∷ kinds.NotEqual ∷ kinds.Arrow ∷ []

-- the symbols of one byte
abbrev pub singles : List TokenKind
singles = kinds.Less ∷ kinds.Greater ∷ kinds.Equal ∷ kinds.Plus ∷ kinds.Minus ∷ kinds.Star ∷ kinds.OpenParen ∷ kinds.CloseParen ∷ kinds.OpenBrace ∷ kinds.CloseBrace
    ∷ kinds.Semicolon ∷ kinds.Comma ∷ []

-- the symbol that two bytes are
abbrev pub pair_of : ℕ → ℕ → Option TokenKind
pair_of b c = written_so pairs (b ∷ c ∷ [])

-- the symbol that one byte is
abbrev pub single_of : ℕ → Option TokenKind
single_of b = written_so singles (b ∷ [])

-- a byte that begins no white space, comment, word or number
abbrev pub IsOther : ℕ → Type 0
IsOther b = (is_white b ≡ false) × ((b == 35) ≡ false) × (is_letter b ≡ false) × (is_digit b ≡ false)

-- white space or a comment
abbrev pub IsGap : Piece → Type 0
IsGap (White bytes) = Unit {0}
IsGap (Comment bytes) = Unit {0}
IsGap (Lexeme kind bytes) = ⊥

-- the longest piece at the front, with the bytes after it
pub record IsNext (text : List ℕ) (piece : Piece) (rest : List ℕ) : Type 0 where
  pub begins : BeginsWith text piece rest
  pub longest : IsLongest text piece
  pub some : 0 < length (bytes_of piece)

-- what stands at the front
abbrev pub IsFront : List ℕ → Front → Type 0
IsFront text (fronts.Gap n) = (piece : Piece) × IsNext text piece (drop n text) × IsGap piece × (n ≡ length (bytes_of piece)) × (n ≤ length text)
IsFront text (fronts.Lexeme kind n) = (bytes : List ℕ) × IsNext text (Lexeme kind bytes) (drop n text) × IsSmall (Lexeme kind bytes) × (n ≡ length bytes) × (n ≤ length text)
IsFront text fronts.BadByte = HasNoPiece text
IsFront text fronts.NumberTooLarge = (n : ℕ) × (digits after : List ℕ) × IsNext text (Lexeme (kinds.Number n) digits) after × (2 ^ 63 < n)
IsFront text fronts.NameTooLong = (word after : List ℕ) × IsNext text (Lexeme (kinds.Name word) word) after × (64 < length word)
