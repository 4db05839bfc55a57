-- What a failed write leaves of a check.
use Rattle.std.specs.Prelude.{ℕ, Bool, List, Option}
use Rattle.og_io.specs.Joined.{IsSplit}
use Rattle.og_io.specs.Written.{AppendsFront}
use Rattle.og_command_check.specs.Answers.{IsOutput}
use Rattle.og_command_check.specs.Warrants.{Warrants}

-- known bytes grow by a front of the text to print
abbrev pub WritesFront : Bool → List ℕ → List ℕ → Option (List ℕ) → Option (List ℕ) → Type 0
WritesFront json source certs before after =
    (text : List ℕ) × (status : ℕ) × IsOutput json source certs text status
    × Warrants json source text status × AppendsFront before after text

-- the same, for the one split of the input
abbrev pub WritesJoinedFront : Bool → List ℕ → Option (List ℕ) → Option (List ℕ) → Type 0
WritesJoinedFront json input before after =
    (source certs : List ℕ) × IsSplit input source certs
    × WritesFront json source certs before after
