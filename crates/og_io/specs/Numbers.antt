-- Numbers in a word, with a comma between two.
use Rattle.std.specs.Prelude.{◌≡◌, ◌<◌, ◌^◌, ◌==◌, ℕ, Bool, List, [], ◌∷◌, length}
use Rattle.std.specs.List.{position_or_len, before_first, after_first}
use Rattle.std.specs.Str.Parse.{IsNumeral, digits_value}

-- `,`
abbrev pub is_comma : ℕ → Bool
is_comma byte = byte == 44

-- one digit or more; the number has 32 bits
pub record IsNumber (text : List ℕ) (n : ℕ) : Type 0 where
  pub digits : IsNumeral 10 text
  pub value : n ≡ digits_value 10 text
  pub fits : n < 2 ^ 32

-- numbers with a comma between two
abbrev pub AreNumbers : List ℕ → List ℕ → Type 0
AreNumbers word [] = ⊥
AreNumbers word (n ∷ []) = (position_or_len is_comma word ≡ length word) × IsNumber word n
AreNumbers word (n ∷ m ∷ ns) =
    (position_or_len is_comma word < length word) × IsNumber (before_first is_comma word) n × AreNumbers (after_first is_comma word) (m ∷ ns)
