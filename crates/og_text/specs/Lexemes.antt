-- The pieces that a text is cut into: white space, comments and lexemes.
use Rattle.std.specs.Prelude.{◌≡◌, ℕ, ◌+◌, ◌*◌, ◌-◌, Bool, true, ◌&&◌, ◌||◌, not, ◌==◌, nat_le, List, [], ◌∷◌, Option, Some, None, if◌then◌else◌, codes}
use Rattle.std.specs.Str.{bytes_eq}
use Rattle.og_text.specs.declared.token.TokenKind.{TokenKind}
use Rattle.og_text.specs.declared.token.TokenKind.TheVariants as kinds

-- ---- bytes

-- space, tab, CR or LF
abbrev pub is_white : ℕ → Bool
is_white b = (b == 32) || (b == 9) || (b == 13) || (b == 10)

-- a decimal digit
abbrev pub is_digit : ℕ → Bool
is_digit b = nat_le 48 b && nat_le b 57

-- a letter or an underscore
abbrev pub is_letter : ℕ → Bool
is_letter b = (nat_le 97 b && nat_le b 122) || (nat_le 65 b && nat_le b 90) || (b == 95)

-- a letter, an underscore or a digit
abbrev pub is_word_byte : ℕ → Bool
is_word_byte b = is_letter b || is_digit b

-- any byte but LF
abbrev pub in_line : ℕ → Bool
in_line b = not (b == 10)

abbrev pub Each : (ℕ → Bool) → List ℕ → Type 0
Each p [] = Unit {0}
Each p (b ∷ bs) = (p b ≡ true) × Each p bs

-- ---- keywords and symbols

-- how a keyword or a symbol is written, and a name by its bytes
abbrev pub text_of : TokenKind → List ℕ
text_of (kinds.Name bytes) = bytes
text_of (kinds.Number n) = []
text_of kinds.Var = codes "var"
text_of kinds.Aux = codes "aux"
text_of kinds.Cobegin = codes "cobegin"
text_of kinds.Coend = codes "coend"
text_of kinds.Await = codes "await"
text_of kinds.Then = codes "then"
text_of kinds.Begin = codes "begin"
text_of kinds.End = codes "end"
text_of kinds.If = codes "if"
text_of kinds.Else = codes "else"
text_of kinds.While = codes "while"
text_of kinds.Do = codes "do"
text_of kinds.Skip = codes "skip"
text_of kinds.True = codes "true"
text_of kinds.False = codes "false"
text_of kinds.Not = codes "not"
text_of kinds.And = codes "and"
text_of kinds.Or = codes "or"
text_of kinds.Assign = codes ":="
text_of kinds.Parallel = codes "//"
text_of kinds.LessEqual = codes "<="
text_of kinds.GreaterEqual = codes ">="
text_of kinds.NotEqual = codes "<>"
text_of kinds.Less = codes "<"
text_of kinds.Greater = codes ">"
text_of kinds.Equal = codes "="
text_of kinds.Plus = codes "+"
text_of kinds.Minus = codes "-"
text_of kinds.Arrow = codes "->"
text_of kinds.Star = codes "*"
text_of kinds.OpenParen = codes "("
text_of kinds.CloseParen = codes ")"
text_of kinds.OpenBrace = codes "{"
text_of kinds.CloseBrace = codes "}"
text_of kinds.Semicolon = codes ";"
text_of kinds.Comma = codes ","

-- the first of the kinds that is written so
abbrev pub written_so : List TokenKind → List ℕ → Option TokenKind
written_so [] bytes = None
written_so (kind ∷ others) bytes = (if bytes_eq bytes (text_of kind) then Some kind else written_so others bytes)

-- the words that are no names
abbrev pub keywords : List TokenKind
keywords = kinds.Var ∷ kinds.Aux ∷ kinds.Cobegin ∷ kinds.Coend ∷ kinds.Await ∷ kinds.Then ∷ kinds.Begin ∷ kinds.End ∷ kinds.If ∷ kinds.Else ∷ kinds.While ∷ kinds.Do
    ∷ kinds.Skip ∷ kinds.True ∷ kinds.False ∷ kinds.Not ∷ kinds.And ∷ kinds.Or ∷ []

-- the keyword that a word is
abbrev pub keyword_of : List ℕ → Option TokenKind
keyword_of word = written_so keywords word

-- ---- runs of bytes

-- a first byte that passes the one test, and then bytes that pass the other
abbrev pub IsRun : (ℕ → Bool) → (ℕ → Bool) → List ℕ → Type 0
IsRun first other [] = ⊥
IsRun first other (b ∷ bs) = (first b ≡ true) × Each other bs

-- white space
abbrev pub IsWhite : List ℕ → Type 0
IsWhite bytes = IsRun is_white is_white bytes

-- a comment: `#`, and the rest of its line
abbrev pub IsComment : List ℕ → Type 0
IsComment bytes = IsRun (λ b. b == 35) in_line bytes

-- a letter or an underscore, and then letters, digits and underscores
abbrev pub IsWord : List ℕ → Type 0
IsWord bytes = IsRun is_letter is_word_byte bytes

-- a row of digits
abbrev pub IsNumber : List ℕ → Type 0
IsNumber bytes = IsRun is_digit is_digit bytes

-- the number that digits stand for after a number
abbrev pub value_from : ℕ → List ℕ → ℕ
value_from n [] = n
value_from n (d ∷ ds) = value_from (10 * n + (d - 48)) ds

-- the number that digits stand for
abbrev pub value_of : List ℕ → ℕ
value_of digits = value_from 0 digits

-- the bytes are written for a lexeme of this kind
abbrev pub Spells : TokenKind → List ℕ → Type 0
Spells (kinds.Name n) bytes = IsWord bytes × (keyword_of bytes ≡ None) × (n ≡ bytes)
Spells (kinds.Number n) bytes = IsNumber bytes × (n ≡ value_of bytes)
Spells kind bytes = bytes ≡ text_of kind
