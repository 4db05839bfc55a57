-- Notes of a template that are one use of a named assertion.
use Rattle.std.specs.Prelude.{ℕ, ◌+◌, ◌-◌, length, take, drop, List, [], ◌∷◌, Bool, true, false, not, ◌==◌, ◌&&◌, ◌||◌, if◌then◌else◌, Option, Some, None, codes}
use Rattle.std.specs.Str.{bytes_eq}
use Rattle.og_text.specs.Lexemes.{is_letter, is_word_byte}
use Rattle.og_report_text.specs.Places.{◌&◌}
use Rattle.og_report_text.specs.Quotes.{is_blank, trimmed}
use Rattle.og_report_text.specs.Origins.{Rows, row_at}
use Rattle.og_report_text.specs.declared.row.Row.{Row}

-- up to a `}`
abbrev pub up_to_brace : List ℕ → List ℕ
up_to_brace [] = []
up_to_brace (b ∷ bs) = if b == 125 then [] else b ∷ up_to_brace bs

-- without the blanks at its front
abbrev pub after_blanks : List ℕ → List ℕ
after_blanks [] = []
after_blanks (b ∷ bs) = if is_blank b then after_blanks bs else b ∷ bs

-- what stands between the braces of a note
abbrev pub note_text : List ℕ → ℕ → List ℕ
note_text source at = trimmed (up_to_brace (after_blanks (drop (at + 1) source)))

-- without the word at its front
abbrev pub after_word : List ℕ → List ℕ
after_word [] = []
after_word (b ∷ bs) = if is_word_byte b then after_word bs else b ∷ bs

abbrev pub word_of : List ℕ → List ℕ
word_of text = take (length text - length (after_word text)) text

-- a word that means no assertion of its own name
abbrev pub is_keyword : List ℕ → Bool
is_keyword word = bytes_eq word (codes "true") || bytes_eq word (codes "false") || bytes_eq word (codes "not")

-- one `)`, at the end, and no `(` before it
abbrev pub is_closed : List ℕ → Bool
is_closed [] = false
is_closed (b ∷ []) = b == 41
is_closed (b ∷ c ∷ bs) = not (b == 40 || b == 41) && is_closed (c ∷ bs)

-- nothing, or arguments
abbrev pub are_arguments : List ℕ → Bool
are_arguments [] = true
are_arguments (b ∷ bs) = b == 40 && is_closed bs

abbrev pub begins_name : List ℕ → Bool
begins_name [] = false
begins_name (b ∷ bs) = is_letter b

-- a name, perhaps with arguments
abbrev pub is_use : List ℕ → Bool
is_use text = begins_name text && not (is_keyword (word_of text)) && are_arguments (after_word text)

abbrev pub use_text : List ℕ → List ℕ
use_text text = if is_use text then text & codes ": " else []

-- before the conjuncts of a note that is one use of a named assertion: that use
abbrev pub use_text_of : List ℕ → Option Row → List ℕ
use_text_of source None = []
use_text_of source (Some row) = use_text (note_text source row.from)

abbrev pub use_text_at : List ℕ → Rows → ℕ → List ℕ
use_text_at source rows at = use_text_of source (row_at rows at)
