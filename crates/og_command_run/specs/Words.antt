-- The values that words give to variables.
use Rattle.std.specs.Prelude.{◌≡◌, ◌≢◌, ◌⊎◌, ◌<◌, ◌==◌, ℕ, ℤ, true, List, [], ◌∷◌, length, map, replicate, set, slice_get, Bool, Option, Some, None, unwrap_or, Result, Ok, Err, pos, ⊤}
use Rattle.std.specs.List.{position_or_len, before_first, after_first}
use Rattle.std.specs.Str.Parse.{IsNumeral, without_leading_sign, signed_digits_value}
use Rattle.og_linear.specs.Linear.{fits_i64}
use Rattle.og_typed.specs.Syntax.{Program}
use Rattle.og_typed.specs.Resolved.{number_in}
use Rattle.og_command_run.specs.declared.words.WordsError.{WordsError}
use Rattle.og_command_run.specs.declared.words.WordsError.TheVariants as errors

-- `=`
abbrev pub is_equals : ℕ → Bool
is_equals byte = byte == 61

-- one digit or more, with or without one `-` before them; the number is an i64
pub record IsInteger (text : List ℕ) (z : ℤ) : Type 0 where
  pub no_plus : slice_get text 0 ≢ Some 43
  pub digits : IsNumeral 10 (without_leading_sign text)
  pub value : z ≡ signed_digits_value 10 text
  pub fits : fits_i64 z ≡ true

-- NAME=INT: what stands before the first `=` names the variable x, and what stands after it is the number z
pub record Says (names : List (List ℕ)) (word : List ℕ) (x : ℕ) (z : ℤ) : Type 0 where
  pub has_equals : position_or_len is_equals word < length word
  pub variable : number_in names (before_first is_equals word) ≡ Some x
  pub value : IsInteger (after_first is_equals word) z

-- the word says a value of a variable that has none yet
pub record Adds (names : List (List ℕ)) (given : List (Option ℤ)) (word : List ℕ) (x : ℕ) (z : ℤ) : Type 0 where
  pub says : Says names word x z
  pub new : slice_get given x ≡ Some None

-- what the words give, one after another; or the first of them that adds nothing
abbrev pub Reads : List (List ℕ) → List (Option ℤ) → List (List ℕ) → Result (List (Option ℤ)) (List ℕ) → Type 0
Reads names given [] r = r ≡ Ok given
Reads names given (word ∷ words) r =
    ((x : ℕ) × (z : ℤ) × Adds names given word x z × Reads names (set given x (Some z)) words r)
    ⊎ (((x : ℕ) (z : ℤ) → Adds names given word x z → ⊥) × (r ≡ Err word))

-- no variable that is no auxiliary has a value yet, and auxiliaries get none
abbrev pub nothing_given : Program → List (Option ℤ)
nothing_given o = replicate o.vars None

-- the words give these values; a variable that none of them names is 0
abbrev pub Give : Program → List (List ℕ) → List ℤ → Type 0
Give o words values =
    (given : List (Option ℤ)) × Reads o.names (nothing_given o) words (Ok given) × (values ≡ map (λ v. unwrap_or v (pos 0)) given)

-- the first word that adds nothing
abbrev pub IsBadIn : Program → List (List ℕ) → List ℕ → Type 0
IsBadIn o words word = Reads o.names (nothing_given o) words (Err word)

-- the word that is reported is such a word; or memory ran out
abbrev pub IsBadOr : (List ℕ → Type 0) → WordsError → Type 0
IsBadOr P (errors.Bad word) = P word.now
IsBadOr P errors.Memory = ⊤
