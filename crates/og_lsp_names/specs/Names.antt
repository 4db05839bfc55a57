-- The names of a text: where they stand, and which name may be given in place of one.
use Rattle.std.specs.Prelude.{◌≡◌, ◌≢◌, ◌⊎◌, ℕ, ◌-◌, ◌==◌, nat_le, nat_lt, List, [], ◌∷◌, length, Bool, true, false, ◌&&◌, Option, Some, None, if◌then◌else◌, map, filter, filter_map, slice_index_or}
use Rattle.std.specs.List.{suffix_len}
use Rattle.std.specs.Str.{bytes_eq}
use Rattle.og_text.specs.Cut.{AreTokensOf}
use Rattle.og_text.specs.declared.place.Span.{Span}
use Rattle.og_text.specs.declared.token.Token.{Token}
use Rattle.og_text.specs.declared.token.TokenKind.{TokenKind}
use Rattle.og_text.specs.declared.token.TokenKind.TheVariants as kinds
use Rattle.og_template.specs.Words.{AreWordsOf}
use Rattle.og_template.specs.declared.word.Word.{Word}
use Rattle.og_template.specs.declared.word.WordKind.{WordKind}
use Rattle.og_template.specs.declared.word.WordKind.TheVariants as words
use Rattle.og_layout.specs.Pieces.{AreWords}
use Rattle.og_lsp_names.specs.declared.names.NameFault.{NameFault}
use Rattle.og_lsp_names.specs.declared.names.NameFault.TheVariants as faults

-- ---- words that are names

abbrev pub name_of_kind : TokenKind → Option (List ℕ)
name_of_kind (kinds.Name bytes) = Some bytes
name_of_kind kind = None

-- the bytes of a word that is a name
abbrev pub name_in : WordKind → Option (List ℕ)
name_in (words.Lexeme kind) = name_of_kind kind
name_in (words.Special special) = None

abbrev pub is_this : List ℕ → Option (List ℕ) → Bool
is_this name None = false
is_this name (Some bytes) = bytes_eq bytes name

-- the word is the name
abbrev pub is_named : List ℕ → Word → Bool
is_named name word = is_this name (name_in word.kind)

-- the places of the words that are the name, in their order
abbrev pub spans_named : List ℕ → List Word → List Span
spans_named name all = map (λ w. w.span) (filter (is_named name) all)

-- ---- the name at a place

abbrev pub with_span : Span → Option (List ℕ) → Option (List ℕ × Span)
with_span span None = None
with_span span (Some bytes) = Some (bytes, span)

-- the name that a word is, where a byte offset lies in it or at its end
abbrev pub name_there : ℕ → Word → Option (List ℕ × Span)
name_there at w = if nat_le w.span.start at && nat_le at w.span.end then with_span w.span (name_in w.kind) else None

-- the last of a list
abbrev pub last_or : {X : Type 0} → Option X → List X → Option X
last_or found [] = found
last_or found (x ∷ xs) = last_or (Some x) xs

abbrev pub last_name : ℕ → List Word → Option (List ℕ × Span)
last_name at all = last_or None (filter_map (name_there at) all)

-- ---- a new name

abbrev pub is_digit : ℕ → Bool
is_digit b = nat_le 48 b && nat_le b 57

-- it ends in `_` and one digit or more
abbrev pub is_reserved_by : List ℕ → ℕ → Bool
is_reserved_by name digits = nat_lt 0 digits && nat_lt digits (length name) && (slice_index_or name (length name - digits - 1) 0 == 95)

abbrev pub is_reserved : List ℕ → Bool
is_reserved name = is_reserved_by name (suffix_len is_digit name)

-- in an outline these bytes are one name
pub record IsOutlineName (name : List ℕ) : Type 0 where
  pub token : Token
  pub cut : AreTokensOf name (token ∷ [])
  pub is : name_of_kind token.kind ≡ Some name

-- in a template they are
pub record IsTemplateName (name : List ℕ) : Type 0 where
  pub word : Word
  pub cut : AreWordsOf name (word ∷ [])
  pub is : name_in word.kind ≡ Some name

abbrev pub IsName : Bool → List ℕ → Type 0
IsName true name = IsTemplateName name
IsName false name = IsOutlineName name

-- whether it is refused in the place of a name of a text with these words, and why
abbrev pub IsNameFault : Bool → List Word → List ℕ → Option NameFault → Type 0
IsNameFault template all name None = IsName template name × (spans_named name all ≡ []) × ((template && is_reserved name) ≡ false)
IsNameFault template all name (Some faults.NoName) = IsName template name → ⊥
IsNameFault template all name (Some faults.Taken) = IsName template name × (spans_named name all ≢ [])
IsNameFault template all name (Some faults.Reserved) = IsName template name × (spans_named name all ≡ []) × ((template && is_reserved name) ≡ true)

-- the words of a text, or none where it has none
abbrev pub AreWordsOrNone : List ℕ → List Word → Type 0
AreWordsOrNone text all = AreWords text all ⊎ ((all ≡ []) × ((others : List Word) → AreWords text others → ⊥))

-- ---- the words of the contracts of private functions

abbrev pub is_one_word : List ℕ → List Word → Bool
is_one_word name [] = false
is_one_word name (w ∷ []) = is_named name w
is_one_word name (w ∷ v ∷ ws) = false

abbrev pub is_one_token : List ℕ → List Token → Bool
is_one_token name [] = false
is_one_token name (t ∷ []) = is_this name (name_of_kind t.kind)
is_one_token name (t ∷ u ∷ ts) = false

-- where it is taken so often
abbrev pub fault_of : Bool → ℕ → List ℕ → Option NameFault
fault_of template taken name = if nat_lt 0 taken then Some faults.Taken else (if template && is_reserved name then Some faults.Reserved else None)
