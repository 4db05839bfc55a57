-- What may be written at a place.
use Rattle.std.specs.Prelude.{◌≡◌, ◌⊎◌, ℕ, ◌-◌, ◌==◌, min, List, [], ◌∷◌, length, take, drop, flat_map, All, Bool, true, false, Option, Some, None, codes, ⊤}
use Rattle.std.specs.List.{suffix_len, list_any}
use Rattle.og_text.specs.Cut.{AreTokensOf}
use Rattle.og_text.specs.Lexemes.{is_word_byte, in_line}
use Rattle.og_text.specs.declared.token.Token.{Token}
use Rattle.og_text.specs.declared.token.TokenKind.{TokenKind}
use Rattle.og_text.specs.declared.token.TokenKind.TheVariants as kinds
use Rattle.og_parse.specs.Expected.{AreThose, GoesOn, all_kinds}
use Rattle.og_template.specs.Front.{is_template}
use Rattle.og_lsp_names.specs.declared.choosing.Choice.{Choice}
use Rattle.og_lsp_names.specs.declared.choosing.ChoiceKind.{ChoiceKind}
use Rattle.og_lsp_names.specs.declared.choosing.ChoiceKind.TheVariants as choices

-- ---- the place

-- the bytes in front of a place, as far as the text goes
abbrev pub up_to : List ℕ → ℕ → List ℕ
up_to text at = take (min (length text) at) text

-- without the word at their end
abbrev pub without_word : List ℕ → List ℕ
without_word bytes = take (length bytes - suffix_len is_word_byte bytes) bytes

abbrev pub front : List ℕ → ℕ → List ℕ
front text at = without_word (up_to text at)

abbrev pub last_line_len : List ℕ → ℕ
last_line_len bytes = suffix_len in_line bytes

abbrev pub last_line : List ℕ → List ℕ
last_line bytes = drop (length bytes - last_line_len bytes) bytes

-- a comment begins in the last line
abbrev pub in_comment : List ℕ → Bool
in_comment bytes = list_any (λ b. b == 35) (last_line bytes)

-- ---- keywords

-- how a keyword of outlines is written
abbrev pub keyword_of : TokenKind → Option (List ℕ)
keyword_of kinds.Var = Some (codes "var")
keyword_of kinds.Aux = Some (codes "aux")
keyword_of kinds.Cobegin = Some (codes "cobegin")
keyword_of kinds.Coend = Some (codes "coend")
keyword_of kinds.Await = Some (codes "await")
keyword_of kinds.Then = Some (codes "then")
keyword_of kinds.Begin = Some (codes "begin")
keyword_of kinds.End = Some (codes "end")
keyword_of kinds.If = Some (codes "if")
keyword_of kinds.Else = Some (codes "else")
keyword_of kinds.While = Some (codes "while")
keyword_of kinds.Do = Some (codes "do")
keyword_of kinds.Skip = Some (codes "skip")
keyword_of kinds.True = Some (codes "true")
keyword_of kinds.False = Some (codes "false")
keyword_of kinds.Not = Some (codes "not")
keyword_of kinds.And = Some (codes "and")
keyword_of kinds.Or = Some (codes "or")
keyword_of kind = None

abbrev pub labels : Option (List ℕ) → List (List ℕ)
labels None = []
labels (Some label) = label ∷ []

-- those of the kinds that are keywords
abbrev pub keywords_of : List TokenKind → List (List ℕ)
keywords_of = flat_map (λ k. labels (keyword_of k))

abbrev pub is_name : TokenKind → Bool
is_name (kinds.Name bytes) = true
is_name kind = false

abbrev pub has_name : List TokenKind → Bool
has_name all = list_any is_name all

-- ---- choices

abbrev pub is_keyword : ChoiceKind → Bool
is_keyword choices.Keyword = true
is_keyword (choices.Name kind) = false

abbrev pub label_by : Bool → List ℕ → List (List ℕ)
label_by true label = label ∷ []
label_by false label = []

-- a keyword by its bytes
abbrev pub keyword_in : Choice → List (List ℕ)
keyword_in c = label_by (is_keyword c.kind) c.label.items

abbrev pub keywords_in : List Choice → List (List ℕ)
keywords_in = flat_map keyword_in

abbrev pub AreKeywords : List Choice → Type 0
AreKeywords = All (λ c. is_keyword c.kind ≡ true)

-- the keywords are those with which an outline goes on behind the tokens, in their order, and names are among the choices only where a name may stand
pub record AreOutlineChoices (before : List Token) (choices : List Choice) : Type 0 where
  pub kinds : List TokenKind
  pub exact : AreThose (GoesOn before) all_kinds kinds
  pub keywords : keywords_in choices ≡ keywords_of kinds
  pub names : has_name kinds ≡ false → AreKeywords choices

-- nothing where the front has no tokens
abbrev pub AreChoicesBehind : List ℕ → List Choice → Type 0
AreChoicesBehind front choices =
    ((tokens : List Token) × AreTokensOf front tokens × AreOutlineChoices tokens choices)
    ⊎ ((choices ≡ []) × ((tokens : List Token) → AreTokensOf front tokens → ⊥))

-- of a template nothing is said
abbrev pub AreChoicesOf : Bool → Bool → List ℕ → List Choice → Type 0
AreChoicesOf true template front choices = choices ≡ []
AreChoicesOf false true front choices = ⊤
AreChoicesOf false false front choices = AreChoicesBehind front choices

-- what may be written behind a front, in a comment and elsewhere
abbrev pub AreChoices : List ℕ → List Choice → Type 0
AreChoices front choices = AreChoicesOf (in_comment front) (is_template front) front choices
