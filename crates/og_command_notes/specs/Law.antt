-- What stands in the notes.
use Rattle.std.specs.Prelude.{◌≡◌, ℕ, List, ◌++◌, Contains}
use Rattle.og_typed.specs.Syntax.{Program}
use Rattle.og_report_text.specs.Origins.{Rows}
use Rattle.og_review_text.specs.Steps.{Step, all_steps}
use Rattle.og_review_text.specs.Accesses.{step_line}
use Rattle.og_command_notes.specs.Claims.{Claim}
use Rattle.og_command_notes.specs.Notes.{claim_line, notes_text}
use Rattle.og_command_notes.specs.declared.together.Block.{Block}

-- the part stands in the text
abbrev pub IsIn : List ℕ → List ℕ → Type 0
IsIn part text = (before after : List ℕ) × (text ≡ before ++ (part ++ after))

-- the line of each step stands in the notes
abbrev pub StepsAreListed : Type 0
StepsAreListed = (o : Program) (source : List ℕ) (rows : Rows) (claims : List Claim) (blocks : List Block) (step : Step) → Contains (all_steps o) step
    → IsIn (step_line source rows o.names o.vars (all_steps o) step) (notes_text o source rows claims blocks)

-- and so does that of each question whose facts were found to be never true together
abbrev pub ClaimsAreListed : Type 0
ClaimsAreListed = (o : Program) (source : List ℕ) (rows : Rows) (claims : List Claim) (blocks : List Block) (c : Claim) → Contains claims c
    → IsIn (claim_line source rows c) (notes_text o source rows claims blocks)
