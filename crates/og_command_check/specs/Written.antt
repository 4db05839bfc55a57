-- What is read for a check, and what a writer gets of it.
use Rattle.std.specs.Prelude.{ℕ, Bool, List, Option}
use Rattle.std.specs.Io.KnownBytes.{Appends}
use Rattle.og_io.specs.Joined.{IsSplit}
use Rattle.og_command_check.specs.Answers.{IsOutput}
use Rattle.og_command_check.specs.Inputs.{source_of, certs_of, Reads}
use Rattle.og_command_check.specs.Warrants.{Warrants}

-- the answer goes to the end of what the writer holds, and says this of the source
abbrev pub Writes : Bool → List ℕ → List ℕ → Option (List ℕ) → Option (List ℕ) → ℕ → Type 0
Writes json source certs before after status =
    (text : List ℕ) × IsOutput json source certs text status × Warrants json source text status
    × Appends before after text

-- the answer for the one split of the input
abbrev pub WritesJoined : Bool → List ℕ → Option (List ℕ) → Option (List ℕ) → ℕ → Type 0
WritesJoined json input before after status =
    (source certs : List ℕ) × IsSplit input source certs
    × Writes json source certs before after status

-- P of the bytes of a source and of certificates that were read
abbrev pub ReadsBoth : Option (List ℕ) → Option (List ℕ) → (List ℕ → List ℕ → Type 0) → Type 0
ReadsBoth source certs P = Reads source_of source (λ s. Reads certs_of certs (P s))
