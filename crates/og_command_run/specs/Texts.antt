-- The printed text of a run.
use Rattle.std.specs.Prelude.{ℕ, suc, Option, Some, None, ◌==◌, ℤ, Bool, true, false, if◌then◌else◌, List, [], ◌∷◌, length, codes}
use Rattle.std.specs.Fmt.{decimal, signed_decimal}
use Rattle.og_report_text.specs.Places.{◌&◌, position_of, position_text}
use Rattle.og_typed.specs.Syntax.{Program}
use Rattle.og_run.specs.declared.outcome.Finish.{Finish}
use Rattle.og_run.specs.declared.outcome.Finish.TheVariants.{Finished, Stuck, Limit, Overflow}
use Rattle.og_run.specs.declared.outcome.Outcome.{Outcome}
use Rattle.og_violation.specs.declared.violation.Wrong.{Wrong}
use Rattle.og_violation.specs.declared.violation.Wrong.TheVariants as wrong

-- processes are counted from 1 in print; the main process, which has the number after the last, is 0
abbrev pub printed_number : ℕ → ℕ → ℕ
printed_number main p = if p == main then 0 else suc p

-- the processes that moved, in order
abbrev pub moves_text : ℕ → List ℕ → List ℕ
moves_text main [] = []
moves_text main (p ∷ ps) = codes " " & decimal (printed_number main p) & moves_text main ps

abbrev pub history_line : ℕ → List ℕ → List ℕ
history_line main history = codes "history:" & moves_text main history & codes "\n"

abbrev pub finish_text : ℕ → Finish → List ℕ
finish_text main Finished = codes "finished"
finish_text main Stuck = codes "stuck"
finish_text main Limit = codes "limit"
finish_text main (Overflow p) = codes "overflow of process " & decimal (printed_number main p)

abbrev pub finish_line : ℕ → Finish → List ℕ
finish_line main finish = codes "outcome: " & finish_text main finish & codes "\n"

-- nothing before the first value, and a comma before each other one
abbrev pub comma_text : Bool → List ℕ
comma_text true = []
comma_text false = codes ","

-- NAME = VALUE
abbrev pub value_text : Bool → List ℕ → ℤ → List ℕ
value_text first name value = comma_text first & codes " " & name & codes " = " & signed_decimal value

-- the variables with their values, in order
abbrev pub values_text : Bool → List (List ℕ) → List ℤ → List ℕ
values_text first [] values = []
values_text first (name ∷ names) [] = []
values_text first (name ∷ names) (value ∷ values) = value_text first name value & values_text false names values

abbrev pub state_line : List (List ℕ) → List ℤ → List ℕ
state_line names values = codes "state:" & values_text true names values & codes "\n"

-- the three lines of an outcome
abbrev pub outcome_text : Program → Outcome → List ℕ
outcome_text o r = history_line (length o.processes) r.history.items & finish_line (length o.processes) r.finish & state_line o.names r.state

-- 0 where all processes have ended, and else 1
abbrev pub finish_status : Finish → ℕ
finish_status Finished = 0
finish_status Stuck = 1
finish_status Limit = 1
finish_status (Overflow p) = 1

-- ---- the lines for standard error

-- by the number under which it is printed
abbrev pub process_text : ℕ → List ℕ
process_text p = if p == 0 then codes "the main process" else codes "process " & decimal p

-- the place in the source, where it is reported
abbrev pub place_text : List ℕ → Option ℕ → List ℕ
place_text source None = []
place_text source (Some at) = codes " at " & position_text (position_of source at)

abbrev pub when_text : ℕ → List ℕ
when_text steps = if steps == 0 then codes "at the start" else codes "after step " & decimal steps

-- which assertion is false
abbrev pub wrong_text : ℕ → Wrong → List ℕ
wrong_text main (wrong.Assertion p) = codes "assertion of " & process_text (printed_number main p)
wrong_text main (wrong.Overflow p) = []
wrong_text main wrong.Post = codes "postcondition"
wrong_text main wrong.Stuck = []

-- an assertion is false after this many steps
abbrev pub note_line : List ℕ → ℕ → Wrong → Option ℕ → ℕ → List ℕ
note_line source main w place steps =
    codes "run: the " & wrong_text main w & place_text source place & codes " is false " & when_text steps & codes "\n"
