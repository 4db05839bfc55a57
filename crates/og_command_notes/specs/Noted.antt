-- The promise of an answer.
use Rattle.std.specs.Prelude.{◌≡◌, ℕ, List}
use Rattle.og_typed.specs.Syntax.{Program}
use Rattle.og_report_text.specs.Subject.{Subject}
use Rattle.og_report_text.specs.declared.answer.Answer.{Answer}
use Rattle.og_review_text.specs.Points.{points}
use Rattle.og_command_notes.specs.Claims.{Claim, AreClaims}
use Rattle.og_command_notes.specs.Together.{AreBlocks, are_many}
use Rattle.og_review_text.specs.Seen.{HasAll}
use Rattle.og_command_notes.specs.Seen.{claims_of}
use Rattle.og_command_notes.specs.Notes.{notes_text}
use Rattle.og_command_notes.specs.declared.notes.Findings.{Findings}
use Rattle.og_command_notes.specs.declared.together.Block.{Block}

-- the notes on the outline, whatever of it is found to be so in no state
abbrev pub IsNotesText : Subject → List ℕ → Type 0
IsNotesText s text =
    (claims : List Claim) × (blocks : List Block) × AreClaims s.outline claims × AreBlocks (points s.outline) blocks
    × (text ≡ notes_text s.outline s.given s.rows claims blocks)

-- these, with status 0
abbrev pub IsNotes : Subject → Answer → Type 0
IsNotes s answer = IsNotesText s answer.text.items × (answer.status ≡ 0)

-- what is known of an outline
abbrev pub AreFindings : Program → Findings → Type 0
AreFindings o found =
    HasAll o found.walk × AreClaims o (claims_of found.claims.items) × AreBlocks (points o) found.together.blocks.items × (found.together.is_cut ≡ are_many (points o))
