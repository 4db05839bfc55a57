-- What is written of what is said.
use Rattle.std.specs.Prelude.{◌≡◌, ◌≤◌, ℕ, List, [], ◌∷◌, false, Option, Some}
use Rattle.std.specs.List.{flat_map}
use Rattle.std.specs.Io.KnownBytes.{Appends}
use Rattle.serde_json.specs.Data.{Data, depth}
use Rattle.serde_json.specs.Read.{max_depth, read}
use Rattle.serde_json.specs.Written.{compact_text, has_float}
use Rattle.og_lsp_frame.specs.Front.{message_text}

-- a body is the shortest text of the JSON, and it is read as that again
pub record IsBodyOf (d : Data) (body : List ℕ) : Type 0 where
  pub text : has_float d ≡ false → body ≡ compact_text d
  pub reads_back : depth d ≤ max_depth → read body ≡ Some d

abbrev pub AreBodiesOf : List Data → List (List ℕ) → Type 0
AreBodiesOf [] [] = Unit {0}
AreBodiesOf [] (body ∷ bodies) = ⊥
AreBodiesOf (d ∷ ds) [] = ⊥
AreBodiesOf (d ∷ ds) (body ∷ bodies) = IsBodyOf d body × AreBodiesOf ds bodies

-- one message for each, in order
abbrev pub Writes : List Data → Option (List ℕ) → Option (List ℕ) → Type 0
Writes ds before after = (bodies : List (List ℕ)) × AreBodiesOf ds bodies × Appends before after (flat_map message_text bodies)
