-- Which words give constants their values, and which word is reported as bad.
use Rattle.std.specs.Prelude.{◌≡◌, ℕ, ◌==◌, Bool, not, ◌&&◌, nat_lt, List, [], length, filter, Contains, ⊤}
use Rattle.std.specs.List.{list_any, position_or_len, before_first}
use Rattle.std.specs.Str.{bytes_eq}
use Rattle.og_template.specs.declared.tree.Constant.{Constant}
use Rattle.og_template_outline.specs.declared.fault.MeaningError.{MeaningError}
use Rattle.og_template_outline.specs.declared.fault.MeaningError.TheVariants as errors
use Rattle.og_template_outline.specs.declared.meaning.Takes.{Takes}
use Rattle.og_template_outline.specs.declared.meaning.Takes.TheVariants as kinds

-- of a template: a word that is reported is one of these
abbrev pub IsOneOrOther : List (List ℕ) → MeaningError → Type 0
IsOneOrOther words errors.Memory = ⊤
IsOneOrOther words (errors.Source fault) = ⊥
IsOneOrOther words (errors.Template fault) = ⊤
IsOneOrOther words (errors.BadValue word) = Contains words word.now

-- ---- words by whether they name a constant

abbrev pub is_one : List Constant → List ℕ → Bool
is_one constants name = list_any (λ c. bytes_eq c.name.name name) constants

abbrev pub is_equals : ℕ → Bool
is_equals b = b == 61

-- a word NAME=.. names one of these
abbrev pub names_one : List Constant → List ℕ → Bool
names_one constants word = is_one constants (before_first is_equals word) && nat_lt (position_or_len is_equals word) (length word)

-- the words that name one of these, and those that name none, each in their order
abbrev pub IsSplitBy : List Constant → List (List ℕ) → List (List ℕ) → List (List ℕ) → Type 0
IsSplitBy constants words naming others =
    (naming ≡ filter (names_one constants) words) × (others ≡ filter (λ w. not (names_one constants w)) words)

-- the words that are to name constants, and those that give starts; where none may give starts, all
-- are to name constants
abbrev pub IsTaken : Takes → List Constant → List (List ℕ) → List (List ℕ) → List (List ℕ) → Type 0
IsTaken kinds.Constants constants words naming starts = (naming ≡ words) × (starts ≡ [])
IsTaken kinds.Starts constants words naming starts = IsSplitBy constants words naming starts
