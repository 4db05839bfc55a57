-- Symbols, as they are written in messages.
use Rattle.std.specs.Prelude.{ℕ, List, [], ◌∷◌, ◌++◌, map, Bool, true, false, codes}
use Rattle.og_text.specs.Lexemes.{text_of}
use Rattle.og_text.specs.declared.token.TokenKind.{TokenKind}
use Rattle.og_text.specs.declared.token.TokenKind.TheVariants as kinds
use Rattle.og_report_text.specs.Places.{◌&◌}

-- a keyword or a symbol in quotes; a name and a number stand for all of them
abbrev pub word_of : TokenKind → List ℕ
word_of (kinds.Name bytes) = codes "a name"
word_of (kinds.Number n) = codes "a number"
word_of kind = codes "'" & text_of kind & codes "'"

-- the end too, where it may stand there
abbrev pub with_end : List (List ℕ) → Bool → List (List ℕ)
with_end words true = words ++ codes "the end of the file" ∷ []
with_end words false = words

-- the words for what may stand there: the symbols, and the end where it may
abbrev pub words_of : List TokenKind → Bool → List (List ℕ)
words_of all may_end = with_end (map word_of all) may_end

-- after a first one: `, a, b or c`
abbrev pub others_text : List (List ℕ) → List ℕ
others_text [] = []
others_text (word ∷ []) = codes " or " & word
others_text (word ∷ next ∷ words) = codes ", " & word & others_text (next ∷ words)

abbrev pub listed : List (List ℕ) → List ℕ
listed [] = codes "nothing"
listed (word ∷ words) = word & others_text words
