-- The first word of a text.
use Rattle.std.specs.Prelude.{ℕ, Bool, false, ◌&&◌, ◌||◌, not, ◌==◌, List, [], ◌∷◌, take, if◌then◌else◌, codes}
use Rattle.std.specs.List.{prefix_len}
use Rattle.std.specs.Str.{bytes_eq}
use Rattle.og_text.specs.Lexemes as lexemes

abbrev pub is_white : ℕ → Bool
is_white b = lexemes.is_white b

abbrev pub is_word_byte : ℕ → Bool
is_word_byte b = lexemes.is_word_byte b

-- what follows white space and comments, from within a comment or not
abbrev pub after_gaps : Bool → List ℕ → List ℕ
after_gaps in_comment [] = []
after_gaps in_comment (b ∷ bs) =
    if not in_comment && not (b == 35) && not (is_white b) then b ∷ bs
    else after_gaps (not (b == 10) && (in_comment || (b == 35))) bs

-- the letters, digits and underscores that come first
abbrev pub first_word : List ℕ → List ℕ
first_word text = take (prefix_len is_word_byte (after_gaps false text)) (after_gaps false text)

abbrev pub is_template : List ℕ → Bool
is_template text = bytes_eq (first_word text) (codes "template")
