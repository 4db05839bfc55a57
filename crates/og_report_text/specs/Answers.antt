-- What a command answers to a refusal.
use Rattle.std.specs.Prelude.{◌≡◌, ◌<◌, ℕ, List, length}
use Rattle.og_typed.specs.Syntax.{Program}
use Rattle.og_cond.specs.Conditions.{conditions}
use Rattle.og_cond.specs.Limits.{condition_limit}
use Rattle.og_cond.specs.declared.fault.TooMany.{TooMany}
use Rattle.og_typed.specs.Refused.{IsSourceFault}
use Rattle.og_typed.specs.declared.source_fault.SourceFault.{SourceFault}
use Rattle.og_report_text.specs.declared.fault.InputFault.{InputFault}
use Rattle.og_report_text.specs.declared.fault.InputFault.TheVariants as faults
use Rattle.og_report_text.specs.declared.answer.Answer.{Answer}
use Rattle.og_report_text.specs.Line.{refused_line}

-- the text is this one, and the status too
abbrev pub Says : List ℕ → ℕ → Answer → Type 0
Says text status answer = (answer.text.items ≡ text) × (answer.status ≡ status)

-- the line of this fault, with status 2
abbrev pub IsFaultAnswer : List ℕ → InputFault → Answer → Type 0
IsFaultAnswer source why answer = Says (refused_line source why) 2 answer

-- the source has no outline, and this is the line that says why
abbrev pub IsUnread : List ℕ → Answer → Type 0
IsUnread source answer = (fault : SourceFault) × IsSourceFault source fault × IsFaultAnswer source (faults.Source fault) answer

-- there are too many conditions, and this is the line that says so
abbrev pub HasTooMany : Program → List ℕ → Answer → Type 0
HasTooMany o source answer =
    (condition_limit < length (conditions o)) × ((fault : TooMany) × IsFaultAnswer source (faults.Conditions fault) answer)
