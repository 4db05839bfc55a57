-- How values of variables are printed.
use Rattle.std.specs.Prelude.{ℕ, zero, suc, ℤ, true, List, [], ◌∷◌, ◌++◌, slice_get, codes}
use Rattle.og_linear.specs.Linear.{value_at}
use Rattle.og_report_text.specs.Places.{◌&◌}
use Rattle.og_report_text.specs.Listing.{name_text, constant_text}

-- the first n numbers: those of n variables
abbrev pub numbers : ℕ → List ℕ
numbers zero = []
numbers (suc n) = numbers n ++ n ∷ []

module _ (names : List (List ℕ)) where
  -- NAME = INT
  abbrev pub value_text : ℕ → ℤ → List ℕ
  value_text x v = name_text (slice_get names x) & codes " = " & constant_text true v

  -- the variables with their values in a state; this stands before the first
  abbrev pub entries_text : List ℕ → List ℤ → List ℕ → List ℕ
  entries_text opening s [] = []
  entries_text opening s (x ∷ xs) = (opening & value_text x (value_at s x)) & entries_text (codes ", ") s xs

  -- `any` for none
  abbrev pub values_text : List ℤ → List ℕ → List ℕ
  values_text s [] = codes "any"
  values_text s (x ∷ xs) = entries_text [] s (x ∷ xs)

  -- the names alone; this stands before the first
  abbrev pub names_text : List ℕ → List ℕ → List ℕ
  names_text opening [] = []
  names_text opening (x ∷ xs) = (opening & name_text (slice_get names x)) & names_text (codes ", ") xs
