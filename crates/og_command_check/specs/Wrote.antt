-- What was written to a writer.
use Rattle.std.specs.Prelude.{◌≡◌, ℕ, List, ◌++◌, Option, None, Some}

-- what a writer holds is known before and after, and such a text was added
abbrev pub Wrote : (List ℕ → Type 0) → Option (List ℕ) → Option (List ℕ) → Type 0
Wrote P None after = ⊥
Wrote P (Some before) None = ⊥
Wrote P (Some before) (Some after) = (text : List ℕ) × (after ≡ before ++ text) × P text
