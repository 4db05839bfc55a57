-- The line for standard error of a step that a schedule cannot make.
use Rattle.std.specs.Prelude.{ℕ, suc, ◌==◌, List, Option, codes, if◌then◌else◌}
use Rattle.std.specs.Fmt.{decimal}
use Rattle.og_report_text.specs.Places.{◌&◌}
use Rattle.og_command_run.specs.Texts.{process_text, place_text}
use Rattle.og_command_run.specs.declared.hindrance.Hindrance.{Hindrance}
use Rattle.og_command_run.specs.declared.hindrance.Hindrance.TheVariants as hindrances

abbrev pub no_process_text : ℕ → List ℕ
no_process_text p = if p == 0 then codes "there is no main process" else codes "there is no process " & decimal p

-- whose part of the program has not begun
abbrev pub early_text : ℕ → List ℕ
early_text p = if p == 0 then codes "the epilogue" else codes "process " & decimal p

-- why the process that is printed as p has no step, and where it stands
abbrev pub hindrance_text : List ℕ → ℕ → Hindrance → Option ℕ → List ℕ
hindrance_text source p hindrances.NoProcess place = no_process_text p
hindrance_text source p hindrances.Ended place = process_text p & codes " has ended"
hindrance_text source p hindrances.Stuck place = codes "the program is stuck"
hindrance_text source p hindrances.Early place = early_text p & codes " has not begun"
hindrance_text source p hindrances.Waits place = process_text p & codes " waits" & place_text source place
hindrance_text source p hindrances.Overflow place = process_text p & codes " overflows" & place_text source place

-- the step after this many steps of a schedule cannot be made
abbrev pub not_made_line : List ℕ → ℕ → ℕ → Hindrance → Option ℕ → List ℕ
not_made_line source steps p why place =
    codes "run: step " & decimal (suc steps) & codes " of the schedule cannot be made: " & hindrance_text source p why place & codes "\n"
