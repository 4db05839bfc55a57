-- The written part of a text: a front of it, or piece by piece.
use Rattle.std.specs.Prelude.{◌≡◌, ℕ, List, ◌++◌, Option}
use Rattle.std.specs.Io.KnownBytes.{Appends}

-- known bytes stay, and grow by a front of the text
abbrev pub AppendsFront : Option (List ℕ) → Option (List ℕ) → List ℕ → Type 0
AppendsFront before after text = (front back : List ℕ) × (text ≡ front ++ back) × Appends before after front

-- more was made after what was held back: known bytes grow by a front of both, and the rest is held back
abbrev pub Passes : Option (List ℕ) → Option (List ℕ) → List ℕ → List ℕ → List ℕ → Type 0
Passes before after held left more = (front : List ℕ) × (held ++ more ≡ front ++ left) × Appends before after front
