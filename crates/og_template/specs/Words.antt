-- The words of a template.
use Rattle.std.specs.Prelude.{◌≡◌, ℕ, ◌≤◌, ◌<◌, ◌^◌, ◌⊎◌, nat_le, List, [], ◌∷◌, ◌++◌, map, length, Option, Some, None, if◌then◌else◌, codes}
use Rattle.std.specs.Str.{bytes_eq}
use Rattle.og_text.specs.declared.token.TokenKind.{TokenKind}
use Rattle.og_text.specs.declared.token.TokenKind.TheVariants as lexemes
use Rattle.og_text.specs.declared.token.Token.{Token}
use Rattle.og_text.specs.declared.fault.LexError.{LexError}
use Rattle.og_text.specs.declared.fault.LexError.TheVariants as errors
use Rattle.og_text.specs.declared.fault.LexFault.TheVariants as faults
use Rattle.og_text.specs.Cut.{AreTokensOf}
use Rattle.og_text.specs.Refused.{IsFaultOf}
use Rattle.og_template.specs.declared.special.Special.{Special}
use Rattle.og_template.specs.declared.special.Special.TheVariants as specials
use Rattle.og_template.specs.declared.word.WordKind.{WordKind}
use Rattle.og_template.specs.declared.word.WordKind.TheVariants as kinds
use Rattle.og_template.specs.declared.word.Word.{Word}
use Rattle.og_template.specs.declared.mask.Mark.{Mark}
use Rattle.og_template.specs.Mask.{masked, marks}

-- the keyword of ranges and of what is repeated that a name is spelt like
abbrev pub inner_keyword_of : List ℕ → Option Special
inner_keyword_of name =
    if bytes_eq name (codes "in") then Some specials.In
    else (if bytes_eq name (codes "where") then Some specials.Where
    else (if bytes_eq name (codes "all") then Some specials.All
    else (if bytes_eq name (codes "some") then Some specials.Any
    else (if bytes_eq name (codes "sum") then Some specials.Sum
    else (if bytes_eq name (codes "mod") then Some specials.Mod
    else None)))))

-- the keyword of templates that a name is spelt like
abbrev pub keyword_of : List ℕ → Option Special
keyword_of name =
    if bytes_eq name (codes "template") then Some specials.Template
    else (if bytes_eq name (codes "const") then Some specials.Const
    else (if bytes_eq name (codes "let") then Some specials.Let
    else (if bytes_eq name (codes "process") then Some specials.Process
    else (if bytes_eq name (codes "for") then Some specials.For
    else inner_keyword_of name))))

abbrev pub kind_by : TokenKind → Option Special → WordKind
kind_by kind None = kinds.Lexeme kind
kind_by kind (Some special) = kinds.Special special

-- what a lexeme is in a template
abbrev pub kind_of : TokenKind → WordKind
kind_of (lexemes.Name name) = kind_by (lexemes.Name name) (keyword_of name)
kind_of kind = kinds.Lexeme kind

abbrev pub word_of : Token → Word
word_of token = record { kind = kind_of token.kind; span = token.span }

abbrev pub word_of_mark : Mark → Word
word_of_mark mark = record { kind = kinds.Special mark.special; span = mark.span }

-- the marks that stand before an offset
abbrev pub before : ℕ → List Mark → List Mark
before at [] = []
before at (mark ∷ marks) = if nat_le at mark.span.start then [] else mark ∷ before at marks

-- the marks from the first on that stands behind an offset
abbrev pub behind : ℕ → List Mark → List Mark
behind at [] = []
behind at (mark ∷ marks) = if nat_le at mark.span.start then mark ∷ marks else behind at marks

-- the words of tokens and marks, each in the order of their places, together
abbrev pub merged : List Token → List Mark → List Word
merged [] marks = map word_of_mark marks
merged (token ∷ tokens) marks =
    map word_of_mark (before token.span.start marks) ++ word_of token ∷ merged tokens (behind token.span.start marks)

-- the text without its marks is cut into tokens; these are their words and its marks
pub record AreWordsOf (text : List ℕ) (words : List Word) : Type 0 where
  pub tokens : List Token
  pub cut : AreTokensOf (masked text) tokens
  pub are : words ≡ merged tokens (marks text)

-- the text is too long; or without its marks it has this fault; or memory ran out
abbrev pub IsErrorOf : List ℕ → LexError → Type 0
IsErrorOf text errors.Memory = length text ≤ 2 ^ 20
IsErrorOf text (errors.Fault fault) = ((2 ^ 20 < length text) × (fault ≡ faults.SourceTooLong)) ⊎ IsFaultOf (masked text) fault
