-- What an outline claims of no run, one by one.
use Rattle.std.specs.Prelude.{◌≡◌, ℕ, List, [], ◌∷◌, map, flat_map, if◌then◌else◌}
use Rattle.og_typed.specs.Syntax.{Program}
use Rattle.og_report_text.specs.Places.{◌&◌}
use Rattle.og_command_notes.specs.Claims.{Claim, AreClaims}
use Rattle.og_command_notes.specs.Notes.{subject_text, finding_text}
use Rattle.og_command_notes.specs.declared.remarking.Remark.{Remark}

-- its place, and its line without that
abbrev pub remark_seen : Remark → ℕ × List ℕ
remark_seen r = (r.at, r.text.items)

-- what is said of a question, where its facts were found to be never true together
abbrev pub remarks_of : Claim → List (ℕ × List ℕ)
remarks_of c = if c.refuted then (c.question.at, subject_text c.question.asked & finding_text c.question.asked) ∷ [] else []

-- they are those of the questions of the outline, and what they say is so
pub record AreRemarks (o : Program) (remarks : List Remark) : Type 0 where
  pub claims : List Claim
  pub are : AreClaims o claims
  pub said : map remark_seen remarks ≡ flat_map remarks_of claims
