-- The report of the end of a run, and of all that was explored.
use Rattle.std.specs.Prelude.{ℕ, ◌+◌, ◌==◌, ℤ, List, [], ◌∷◌, ◌++◌, length, Bool, true, false, if◌then◌else◌, Option, Some, None, codes}
use Rattle.std.specs.Fmt.{decimal}
use Rattle.og_typed.specs.declared.statement.Item.{Item}
use Rattle.og_cond.specs.Names.{name_of_kind}
use Rattle.og_report_text.specs.Origins.{Rows, place_text_at, with_place_text, quoted_at}
use Rattle.og_report_text.specs.Places.{◌&◌}
use Rattle.og_typed.specs.declared.sites.Part.{Part}
use Rattle.og_typed.specs.declared.sites.Part.TheVariants as parts
use Rattle.og_report_text.specs.Values.{values_text, numbers}
use Rattle.og_report_prove.specs.Sentences.{part_text}
use Rattle.og_report_prove.specs.Blocks.{quoted_line, false_lines, too_large_line}
use Rattle.og_report_explore.specs.declared.finding.Fault.{Fault}
use Rattle.og_report_explore.specs.declared.finding.Fault.TheVariants as fault
use Rattle.og_report_explore.specs.declared.finding.Blame.{Blame}
use Rattle.og_report_explore.specs.declared.finding.Finding.{Finding}
use Rattle.og_report_explore.specs.declared.totals.Totals.{Totals}
use Rattle.og_report_explore.specs.Table.{table_text}
use Rattle.og_report_explore.specs.Totals.{totals_text}
use denote.Ref.{Bor}

-- after how many steps
abbrev pub when_text : ℕ → List ℕ
when_text n =
    if n == 0 then codes " at the start\n" else (if n == 1 then codes " after 1 step\n" else codes " after " & decimal n & codes " steps\n")

-- a process by its number, where this is the main process's
abbrev pub part_of : ℕ → ℕ → Part
part_of main p = if p == main then parts.Prologue else parts.Process p

abbrev pub what_text : ℕ → Fault → List ℕ
what_text main (fault.Assertion p note all) = codes "assertion of " & part_text false (part_of main p) & codes " false"
what_text main (fault.Overflow p item x v) = codes "overflow of " & part_text false (part_of main p)
what_text main (fault.Post note all) = codes "postcondition false"
what_text main (fault.Stuck stands) = codes "stuck"

-- where it stands; of a stuck program at `cobegin`
abbrev pub place_of : ℕ → Fault → ℕ
place_of cobegin_at (fault.Assertion p note all) = note.now.at
place_of cobegin_at (fault.Overflow p item x v) = item.now.at
place_of cobegin_at (fault.Post note all) = note.now.at
place_of cobegin_at (fault.Stuck stands) = cobegin_at

abbrev pub where_text : Bool → ℕ → List ℕ
where_text true steps = codes " is false before step " & decimal steps & codes "\n"
where_text false steps = codes " is false in this state\n"

abbrev pub blame_line : List ℕ → Rows → ℕ → Option Blame → List ℕ
blame_line source rows steps None = []
blame_line source rows steps (Some b) =
    codes "  condition " & decimal b.number & codes " " & name_of_kind b.kind & with_place_text source rows b.action_at & where_text b.before steps

-- processes with their numbers from 1, where they stand that have no step
abbrev pub ended_line : ℕ → List ℕ
ended_line n = codes "  process " & decimal n & codes " has ended\n"

abbrev pub waits_line : List ℕ → Rows → ℕ → ℕ → List ℕ
waits_line source rows n at =
    codes "  process " & decimal n & codes " waits at " & place_text_at source rows at & codes ": "
    & quoted_at 72 source rows at & codes "\n"

abbrev pub stand_line : List ℕ → Rows → ℕ → Option (Bor Item) → List ℕ
stand_line source rows n None = ended_line n
stand_line source rows n (Some item) = waits_line source rows n item.now.at

abbrev pub stand_lines : List ℕ → Rows → ℕ → List (Option (Bor Item)) → List ℕ
stand_lines source rows n [] = []
stand_lines source rows n (stand ∷ stands) = stand_line source rows n stand & stand_lines source rows (n + 1) stands

-- the violation, its place, and after how many steps
abbrev pub head_line : List ℕ → Rows → ℕ → ℕ → Finding → List ℕ
head_line source rows main cobegin_at f =
    place_text_at source rows (place_of cobegin_at f.fault) & codes ": " & what_text main f.fault
    & when_text (length f.rows.items)

module _ (names : List (List ℕ)) where
  -- of all variables, `nothing` where there are none
  abbrev pub all_values : List ℤ → List ℕ
  all_values s = if length names == 0 then codes "nothing" else values_text names s (numbers (length names))

  abbrev pub all_line : List ℕ → List ℤ → List ℕ
  all_line word s = codes "  " & word & codes ": " & all_values s & codes "\n"

  module _ (source : List ℕ) (rows : Rows) where
    abbrev pub overflow_lines : ℕ → ℕ → ℤ → List ℕ
    overflow_lines at x v = quoted_line source rows (codes "next") at & too_large_line names x v

    -- what makes it wrong
    abbrev pub fault_lines : Fault → List ℕ
    fault_lines (fault.Assertion p note all) = false_lines names source rows note.now.at all.items
    fault_lines (fault.Overflow p item x v) = overflow_lines item.now.at x v
    fault_lines (fault.Post note all) = false_lines names source rows note.now.at all.items
    fault_lines (fault.Stuck stands) = stand_lines source rows 1 stands.items

    -- the run that leads there
    abbrev pub run_lines : ℕ → Finding → List ℕ
    run_lines main f =
        all_line (codes "start") f.start & table_text names source rows main f.rows.items & all_line (codes "state") f.state

  module _ (source : List ℕ) (rows : Rows) (main cobegin_at : ℕ) where
    abbrev pub finding_text : Finding → List ℕ
    finding_text f =
        head_line source rows main cobegin_at f & run_lines source rows main f & fault_lines source rows f.fault
        & blame_line source rows (length f.rows.items) f.blame

    abbrev pub findings_text : List Finding → List ℕ
    findings_text [] = []
    findings_text (f ∷ fs) = finding_text f & findings_text fs

    abbrev pub report_text : Totals → List Finding → List ℕ
    report_text t fs = findings_text fs & totals_text names t fs
