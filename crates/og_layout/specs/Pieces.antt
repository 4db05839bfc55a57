-- The pieces of a text: its words and its comments, without the white space between them.
use Rattle.std.specs.Prelude.{◌≡◌, ℕ, ◌+◌, ◌-◌, ◌⊎◌, Bool, true, false, ◌||◌, not, ◌==◌, List, [], ◌∷◌, ◌++◌, map, take, drop, length, if◌then◌else◌}
use Rattle.std.specs.List.{prefix_len, suffix_len}
use Rattle.og_text.specs.declared.token.Token.{Token}
use Rattle.og_text.specs.Cut.{AreTokensOf}
use Rattle.og_template.specs.declared.word.Word.{Word}
use Rattle.og_template.specs.declared.word.WordKind.TheVariants as words
use Rattle.og_template.specs.Front.{is_template}
use Rattle.og_template.specs.Words.{AreWordsOf}
use Rattle.og_layout.specs.declared.parts.Part.{Part}
use Rattle.og_layout.specs.declared.parts.PartKind.{PartKind}
use Rattle.og_layout.specs.declared.parts.PartKind.TheVariants as kinds

-- the bytes of a text from one offset up to another
abbrev pub between : List ℕ → ℕ → ℕ → List ℕ
between text start end = take (end - start) (drop start text)

-- ---- words

-- a token as a word
abbrev pub lexeme : Token → Word
lexeme token = record { kind = words.Lexeme token.kind; span = token.span }

-- the words of a template, or of every other text its tokens
abbrev pub AreWords : List ℕ → List Word → Type 0
AreWords text words =
    ((is_template text ≡ true) × AreWordsOf text words)
    ⊎ ((is_template text ≡ false) × (tokens : List Token) × AreTokensOf text tokens × (words ≡ map lexeme tokens))

-- ---- comments

-- a blank, a tab or a carriage return
abbrev pub is_blank : ℕ → Bool
is_blank b = (b == 32) || (b == 9) || (b == 13)

-- any byte but LF
abbrev pub in_line : ℕ → Bool
in_line b = not (b == 10)

-- the first line of a text
abbrev pub first_line : List ℕ → List ℕ
first_line text = take (prefix_len in_line text) text

-- how many bytes the first line has without the blanks at its end
abbrev pub trimmed_len : List ℕ → ℕ
trimmed_len text = length (first_line text) - suffix_len is_blank (first_line text)

-- the comments of white space with comments in it, which begins at an offset, within a comment or not: each from its `#`
-- to the end of its line, without blanks there
abbrev pub comments_from : (within : Bool) → ℕ → List ℕ → List Part
comments_from within at [] = []
comments_from true at (b ∷ bs) = comments_from (not (b == 10)) (at + 1) bs
comments_from false at (b ∷ bs) =
    if b == 35 then record { kind = kinds.Comment; start = at; end = at + trimmed_len (b ∷ bs) } ∷ comments_from true (at + 1) bs
    else comments_from false (at + 1) bs

-- ---- pieces

abbrev pub part_of : Word → Part
part_of word = record { kind = kinds.Word word.kind; start = word.span.start; end = word.span.end }

-- the words of a text from an offset on, and the comments in front of each and behind the last
abbrev pub parts_from : List ℕ → ℕ → List Word → List Part
parts_from text at [] = comments_from false at (between text at (length text))
parts_from text at (word ∷ words) =
    comments_from false at (between text at word.span.start) ++ part_of word ∷ parts_from text word.span.end words

abbrev pub AreParts : List ℕ → List Part → Type 0
AreParts text parts = (words : List Word) × AreWords text words × (parts ≡ parts_from text 0 words)

-- a comment, or a word of some kind, with its bytes
pub record Piece : Type 0 where
  pub kind : PartKind
  pub bytes : List ℕ

abbrev pub piece_in : List ℕ → Part → Piece
piece_in text part = record { kind = part.kind; bytes = between text part.start part.end }

-- the pieces of a text
abbrev pub ArePiecesOf : List ℕ → List Piece → Type 0
ArePiecesOf text pieces = (parts : List Part) × AreParts text parts × (pieces ≡ map (piece_in text) parts)

-- two texts differ in white space alone
abbrev pub HaveSamePieces : List ℕ → List ℕ → Type 0
HaveSamePieces text other = (pieces : List Piece) × ArePiecesOf text pieces × ArePiecesOf other pieces
