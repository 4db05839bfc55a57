-- The page of an outline, from top to bottom.
use Rattle.std.specs.Prelude.{ℕ, List, None, Option, length}
use Rattle.std.specs.Str.{is_utf8}
use Rattle.og_cond.specs.Condition.{Condition}
use Rattle.og_report_text.specs.Places.{◌&◌}
use Rattle.og_report_text.specs.Subject.{Subject}
use Rattle.og_report_prove.specs.declared.diagnosis.Diagnosis.{Diagnosis}
use Rattle.og_report_runs.specs.declared.lines.Explored.{Explored}
use Rattle.og_report_runs.specs.declared.witness.Run.{Run}
use Rattle.og_report_findings.specs.Entries.{unproved_from}
use Rattle.og_report_findings.specs.Order.{in_order}
use Rattle.og_report_findings.specs.Verdicts.{concluded, words_of}
use Rattle.og_report_html.specs.Articles.{articles_text}
use Rattle.og_report_html.specs.Edges.{edges_in}
use Rattle.og_report_html.specs.Escapes.{escaped_text}
use Rattle.og_report_html.specs.Marks.{mark_at}
use Rattle.og_report_html.specs.Numbers.{heading_text, numbers_text}
use Rattle.og_report_html.specs.Source.{source_text}
use Rattle.og_report_html.specs.Table.{table_text}
use Rattle.og_report_html.specs.Totals.{totals_items}
use Rattle.og_report_html.specs.declared.constants.TheConstants.{START, BEFORE_NAME, BEFORE_VERDICT, BEFORE_TOTALS, BEFORE_SOURCE, AFTER_SOURCE, END}
use Rattle.og_report_html.specs.declared.target.Target.{Target}

-- the name of the text as title and as heading
abbrev pub names_text : List ℕ → List ℕ
names_text name =
    START.now & escaped_text (is_utf8 name) name & BEFORE_NAME.now & escaped_text (is_utf8 name) name & BEFORE_VERDICT.now

-- what the findings come to, in the words of `prove`, and the totals
abbrev pub summary_text : Option Explored → List Diagnosis → List ℕ
summary_text e ts = words_of (concluded ts e) & BEFORE_TOTALS.now & totals_items ts & BEFORE_SOURCE.now

-- the text that was given, with marks
abbrev pub marked_text : Subject → List Condition → List Diagnosis → List Target → List ℕ
marked_text s cs ts gs =
    source_text (is_utf8 s.given) (mark_at s.rows cs ts gs) (edges_in s.given s.rows (mark_at s.rows cs ts gs) ts) s.given

-- the numbers of the conditions that are not proved, and their blocks in the order of `prove`, with what stands before them
-- and beneath each
abbrev pub blocks_text : Subject → List ℕ → List (List ℕ) → List Condition → List Diagnosis → List Run → List Target → List ℕ
blocks_text s before beneath cs ts rs gs =
    before & numbers_text ts
    & articles_text s.outline s.outline.names s.given s.rows (is_utf8 s.given) beneath (λ (t : List ℕ). None) (in_order (unproved_from 1 cs ts rs)) gs

-- the name, the verdict, the totals, the text, the table of interference, the blocks, with the additions to these
abbrev pub page_text : List ℕ → Subject → Option Explored → List ℕ → List (List ℕ) → List Condition → List Diagnosis → List Run → List Target → List ℕ
page_text name s e before beneath cs ts rs gs =
    names_text name & summary_text e ts & marked_text s cs ts gs
    & AFTER_SOURCE.now & table_text (length s.outline.processes) ts gs
    & heading_text ts & blocks_text s before beneath cs ts rs gs
    & END.now
