-- The report of all conditions of an outline, as a text.
use Rattle.std.specs.Prelude.{ℕ, nat_lt, List, [], ◌∷◌, length, Option, Some, None, Vec, codes}
use Rattle.std.specs.Global.{Global}
use Rattle.og_typed.specs.Syntax.{Program}
use Rattle.og_cond.specs.Condition.{Condition}
use Rattle.og_report_text.specs.Places.{◌&◌}
use Rattle.og_report_text.specs.Origins.{Rows}
use Rattle.og_report_prove.specs.Blocks.{block_text}
use Rattle.og_report_prove.specs.Report.{head_text, totals_text}
use Rattle.og_report_prove.specs.declared.block.Block.{Block}
use Rattle.og_report_prove.specs.declared.diagnosis.Diagnosis.{Diagnosis}
use Rattle.og_report_prove.specs.declared.diagnosis.Diagnosis.TheVariants as diagnosis
use Rattle.og_report_runs.specs.Lines.{run_line}
use Rattle.og_report_runs.specs.Report.{explored_text}
use Rattle.og_report_runs.specs.declared.lines.Explored.{Explored}
use Rattle.og_report_runs.specs.declared.witness.Run.{Run}
use Rattle.og_report_findings.specs.Alike.{alike_lines}
use Rattle.og_report_findings.specs.Causes.{Item, shown, groups}
use Rattle.og_report_findings.specs.Entries.{unproved_from}
use Rattle.og_report_findings.specs.Hints.{hints_text}
use Rattle.og_report_findings.specs.Order.{in_order}
use Rattle.og_report_findings.specs.Suggested.{suggested, suggestion_lines}
use Rattle.og_report_findings.specs.declared.suggestion.Suggestion.{Suggestion}
use Rattle.og_report_findings.specs.Verdicts.{concluded, verdict_line}

module _ (o : Program) (e : Option Explored) where
  -- the line of the runs, where some were followed
  abbrev pub run_part_by : Option Explored → Run → List ℕ
  run_part_by None r = []
  run_part_by (Some x) r = run_line o (nat_lt 1 x.starts) x.moments r

  abbrev pub run_part : Run → List ℕ
  run_part = run_part_by e

  module _ (advice : List (Vec Suggestion Global)) (source : List ℕ) (rows : Rows) where
    -- a false condition, and behind its block those that are false from the same cause
    abbrev pub false_text : Item → Block → List Item → List ℕ
    false_text i block others =
        head_text source rows i.entry.number i.entry.condition (codes "false") i.more
        & block_text o.names source rows block
        & alike_lines source rows (length o.processes) others
        & run_part i.entry.run
        & hints_text o block i.entry.run
        & suggestion_lines o.names source rows (suggested advice i.entry.number)

    abbrev pub item_text_by : Diagnosis → Item → List Item → List ℕ
    item_text_by diagnosis.Proved i others = []
    item_text_by (diagnosis.False block) i others = false_text i block others
    item_text_by diagnosis.Open i others =
        head_text source rows i.entry.number i.entry.condition (codes "open") i.more

    abbrev pub item_text : Item → List Item → List ℕ
    item_text i others = item_text_by i.entry.diagnosis i others

    abbrev pub group_text : List Item → List ℕ
    group_text [] = []
    group_text (i ∷ others) = item_text i others

    abbrev pub each_text : List (List Item) → List ℕ
    each_text [] = []
    each_text (g ∷ gs) = group_text g & each_text gs

    abbrev pub groups_text : List Item → List ℕ
    groups_text items = each_text (groups o.names source rows items)

-- how far runs were followed, where some were
abbrev pub explored_part : Option Explored → List Run → List ℕ
explored_part None rs = []
explored_part (Some e) rs = explored_text e rs

-- the totals, and the verdict
abbrev pub end_text : Option Explored → List Diagnosis → List Run → List ℕ
end_text e ts rs = totals_text ts & explored_part e rs & verdict_line (concluded ts e)

-- the blocks of those that are not proved, in order, the totals of all, and the verdict
abbrev pub report_text : Program → Option Explored → List (Vec Suggestion Global) → List ℕ → Rows → List Condition → List Diagnosis → List Run → List ℕ
report_text o e advice source rows cs ts rs =
    groups_text o e advice source rows (shown rows (in_order (unproved_from 1 cs ts rs))) & end_text e ts rs
