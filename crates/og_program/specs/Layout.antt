-- What is reported of the layout of a source.
use Rattle.std.specs.Prelude.{◌≡◌, ◌≢◌, ◌⊎◌, ℕ, Bool, true, false, List, [], Option, None, Some, Ok, codes}
use Rattle.og_layout.specs.Pieces.{HaveSamePieces}
use Rattle.og_report_text.specs.Answers.{Says}
use Rattle.og_report_text.specs.Places.{◌&◌}
use Rattle.og_report_refusal.specs.Names.{shown_name}
use Rattle.og_program.specs.World.{Text}
use Rattle.og_program.specs.Beside.{Noted}
use Rattle.og_program.specs.declared.outcome.Report.{Report}

-- the line that says this of a source of this name
abbrev pub layout_text : List ℕ → List ℕ → List ℕ
layout_text name why = codes "og: " & shown_name name & why

abbrev pub IsLayoutNote : List ℕ → List ℕ → Option (List ℕ) → Type 0
IsLayoutNote name why None = ⊥
IsLayoutNote name why (Some text) = text ≡ layout_text name why

-- nothing is printed, with status 1, and that line says why
abbrev pub TellsWhy : List ℕ → List ℕ → Report → Type 0
TellsWhy name why report = Says [] 1 report.answer × Noted (IsLayoutNote name why) report

-- with status 0 a text that differs from the source in white space alone, and nothing beside it
abbrev pub PrintsLayout : Text → Report → Type 0
PrintsLayout text report =
    HaveSamePieces text.bytes report.answer.text.items × (report.answer.status ≡ 0) × (report.note ≡ Ok None)

-- whether the source is such a text that it is laid out as
abbrev pub TellsLayout : Text → Report → Type 0
TellsLayout text report =
    (laid : List ℕ) × HaveSamePieces text.bytes laid
    × (laid ≡ text.bytes → Says [] 0 report.answer × (report.note ≡ Ok None))
    × (laid ≢ text.bytes → TellsWhy text.name (codes " is not laid out\n") report)

-- the one or the other, by whether it is only to be checked
abbrev pub IsPrintedOrTold : Bool → Text → Report → Type 0
IsPrintedOrTold true text report = TellsLayout text report
IsPrintedOrTold false text report = PrintsLayout text report

-- that; or why there is no layout
abbrev pub IsFormatted : Bool → Text → Report → Type 0
IsFormatted check text report =
    IsPrintedOrTold check text report
    ⊎ TellsWhy text.name (codes ": laid out it is longer than a source may be\n") report
    ⊎ TellsWhy text.name (codes " cannot be laid out\n") report
