-- Why a source or certificates are refused, in words.
use Rattle.std.specs.Prelude.{◌≡◌, ℕ, ◌/◌, ◌%◌, Bool, nat_le, List, [], ◌∷◌, take, drop, slice_index_or, position, Option, None, Some, if◌then◌else◌, codes}
use Rattle.std.specs.Bool.{MatchBool}
use Rattle.std.specs.List.{prefix_len}
use Rattle.std.specs.Str.{bytes_eq}
use Rattle.std.specs.Fmt.{decimal}
use Rattle.og_text.specs.Lexemes.{is_word_byte}
use Rattle.og_text.specs.Cut.{AreTokensOf}
use Rattle.og_text.specs.declared.fault.LexFault.TheVariants as lex
use Rattle.og_text.specs.declared.place.Span.{Span}
use Rattle.og_text.specs.declared.token.Token.{Token}
use Rattle.og_text.specs.declared.token.TokenKind.{TokenKind}
use Rattle.og_parse.specs.declared.fault.ParseFault.TheVariants as parse
use Rattle.og_typed.specs.declared.fault.TypeFault.{TypeFault}
use Rattle.og_typed.specs.declared.fault.TypeFault.TheVariants as names
use Rattle.og_cert_text.specs.declared.fault.CertTextFault.{CertTextFault}
use Rattle.og_cert_text.specs.declared.fault.CertTextFault.TheVariants as certs
use Rattle.og_typed.specs.declared.source_fault.SourceFault.TheVariants as sources
use Rattle.og_report_text.specs.declared.fault.InputFault.{InputFault}
use Rattle.og_report_text.specs.declared.fault.InputFault.TheVariants as faults
use Rattle.og_parse.specs.Expected.{IsWhole, GoesOn, AreThose, all_kinds}
use Rattle.og_report_text.specs.Places.{◌&◌, position_of, position_text}
use Rattle.og_report_refusal.specs.Quotes.{is_printable}
use Rattle.og_report_refusal.specs.Words.{words_of, listed}

-- ---- bytes and words of the source

abbrev pub hex_digit : ℕ → ℕ
hex_digit n = slice_index_or (codes "0123456789ABCDEF") n 48

-- the byte at a place, with which nothing begins
abbrev pub byte_text : ℕ → List ℕ
byte_text b =
    if is_printable b then codes "'" & (b ∷ []) & codes "' begins no symbol"
    else codes "byte 0x" & (hex_digit (b / 16) ∷ hex_digit (b % 16) ∷ []) & codes " begins no symbol"

abbrev pub bad_byte_text : List ℕ → List ℕ
bad_byte_text [] = codes "a byte begins no symbol"
bad_byte_text (b ∷ bs) = byte_text b

-- the letters, digits and underscores from a place on
abbrev pub word_at : List ℕ → ℕ → List ℕ
word_at source at = take (prefix_len is_word_byte (drop at source)) (drop at source)

-- that word in front of its fault
abbrev pub wrong_text : List ℕ → ℕ → List ℕ → List ℕ
wrong_text source at why = codes "'" & word_at source at & why

-- ---- the tokens round a place

-- how many tokens end before a place or at it
abbrev pub count_before : List Token → ℕ → ℕ
count_before tokens at = prefix_len (λ t. nat_le t.span.end at) tokens

-- at most 64 bytes of the text from one place to another
abbrev pub cut_at : List ℕ → ℕ → ℕ → List ℕ
cut_at source start end = take 64 (drop start (take end source))

-- in quotes
abbrev pub cut_text : List ℕ → Span → List ℕ
cut_text source span = codes "'" & cut_at source span.start span.end & codes "'"

-- what is found there, as it is written
abbrev pub found_at : List ℕ → Option Span → List ℕ
found_at source None = codes "the end of the file"
found_at source (Some span) = cut_text source span

abbrev pub first_span : List Token → Option Span
first_span [] = None
first_span (t ∷ tokens) = Some t.span

-- the token that is found
abbrev pub found_text : List ℕ → List Token → List ℕ
found_text source tokens = found_at source (first_span tokens)

-- what is found, and the words for what may stand there
abbrev pub found_line : List ℕ → List (List ℕ) → List ℕ
found_line found words = codes "found " & found & codes ", expected " & listed words

abbrev pub expected_text : List ℕ → List TokenKind → Bool → List ℕ
expected_text found symbols may_end = found_line found (words_of symbols may_end)

-- the symbol found behind the tokens before a place, and exactly the symbols that may stand there
pub record IsExpectedText (source : List ℕ) (at : ℕ) (text : List ℕ) : Type 0 where
  pub tokens : List Token
  pub are : AreTokensOf source tokens
  pub symbols : List TokenKind
  pub may_end : Bool
  pub exact : AreThose (GoesOn (take (count_before tokens at) tokens)) all_kinds symbols
  pub ends : MatchBool may_end (IsWhole (take (count_before tokens at) tokens)) (IsWhole (take (count_before tokens at) tokens) → ⊥)
  pub written : text ≡ expected_text (found_text source (drop (count_before tokens at) tokens)) symbols may_end

-- the source is cut into tokens
abbrev pub HasTokens : List ℕ → Type 0
HasTokens source = (tokens : List Token) × AreTokensOf source tokens

-- the token is the word that stands at a place
abbrev pub is_word : List ℕ → ℕ → Token → Bool
is_word source at t = bytes_eq (word_at source t.span.start) (word_at source at)

-- where the first of some tokens begins, or else a place
abbrev pub first_start : List Token → ℕ → ℕ
first_start [] at = at
first_start (t ∷ tokens) at = t.span.start

-- where the token of an index begins, or else a place
abbrev pub start_from : List Token → Option ℕ → ℕ → ℕ
start_from tokens None at = at
start_from tokens (Some index) at = first_start (drop index tokens) at

-- the word that stands at a place, and where it was declared
abbrev pub declared_text : List ℕ → ℕ → ℕ → List ℕ
declared_text source at first = wrong_text source at (codes "' was declared before, at ") & position_text (position_of source first)

-- where the word that stands at a place stands first
pub record IsDeclaredText (source : List ℕ) (at : ℕ) (text : List ℕ) : Type 0 where
  pub tokens : List Token
  pub are : AreTokensOf source tokens
  pub written : text ≡ declared_text source at (start_from tokens (position (is_word source at) tokens) at)

-- ---- the reasons

-- of a rule that names or numbers break
abbrev pub rule_text : List ℕ → TypeFault → List ℕ
rule_text source (names.Undeclared at) = wrong_text source at (codes "' is not declared")
rule_text source (names.DeclaredTwice at) = wrong_text source at (codes "' was declared before")
rule_text source (names.AuxUsed at) =
    wrong_text source at (codes "' is an auxiliary: no test, no guard and no other variable may depend on it")
rule_text source (names.AuxInPrePost at) =
    wrong_text source at (codes "' is an auxiliary: the precondition and the postcondition name none")
rule_text source (names.CoefficientTooLarge at) =
    codes "a coefficient is at most 2147483648, and a constant is a 64-bit number with a sign"
rule_text source (names.TooManyVariables at) = codes "the 257th variable is declared here"
rule_text source (names.TooManyProcesses at) = codes "the 257th process begins here"
rule_text source (names.AwaitTooLong at) = codes "the 65th element of the body begins here"

-- of a text of certificates
abbrev pub certs_text : CertTextFault → List ℕ
certs_text certs.CertsTooLong = codes "certificates have at most 67108864 bytes"
certs_text certs.BadVersion = codes "certificates begin with the line 'og-cert 1' or 'og-cert 2'"
certs_text (certs.BadLine line) = codes "the line is none of a certificate, or out of place, or missing"
certs_text (certs.Twice line) = codes "the condition has a certificate above"
certs_text (certs.TooDeep line) = codes "200 branches and splits stand round this one"

-- the reason of a fault, which is the text
abbrev pub IsReason : List ℕ → InputFault → List ℕ → Type 0
IsReason source (faults.Source (sources.Lex (lex.BadByte at))) text = text ≡ bad_byte_text (drop at source)
IsReason source (faults.Source (sources.Lex (lex.NumberTooLarge at))) text = text ≡ codes "a number is at most 9223372036854775808"
IsReason source (faults.Source (sources.Lex (lex.NameTooLong at))) text = text ≡ codes "a name has at most 64 bytes"
IsReason source (faults.Source (sources.Lex lex.SourceTooLong)) text = text ≡ codes "a source has at most 1048576 bytes"
IsReason source (faults.Source (sources.Parse (parse.Expected span))) text = IsExpectedText source span.start text
IsReason source (faults.Source (sources.Parse (parse.TooDeep span))) text = text ≡ codes "the 101st level opens here"
IsReason source (faults.Source (sources.Parse (parse.TooManyStatements span))) text = text ≡ codes "the 4097th statement begins here"
IsReason source (faults.Source (sources.Resolve (names.DeclaredTwice at))) text = IsDeclaredText source at text
IsReason source (faults.Source (sources.Resolve fault)) text = text ≡ rule_text source fault
IsReason source (faults.Conditions many) text = text ≡ codes "the outline has more than 4000000 conditions"
IsReason source (faults.Certs fault) text = text ≡ certs_text fault
IsReason source (faults.Stray n) text = text ≡ codes "the outline has no condition " & decimal n
