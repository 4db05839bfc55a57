-- A run as a table of HTML, with a lane for each process.
use Rattle.std.specs.Prelude.{⊤, nat_lt, ◌≡◌, ◌⊎◌, ℕ, ◌+◌, ◌-◌, ◌==◌, ℤ, List, [], ◌∷◌, ◌++◌, length, drop, Bool, true, false, ◌||◌, if◌then◌else◌, is_some, codes}
use Rattle.std.specs.Fmt.{decimal}
use Rattle.std.specs.Str.{is_utf8}
use Rattle.og_typed.specs.Syntax.{Program}
use Rattle.og_report_text.specs.Places.{◌&◌}
use Rattle.og_report_text.specs.Quotes.{quote_text}
use Rattle.og_report_explore.specs.Table.{did_text}
use Rattle.og_report_explore.specs.Findings.{AreRowsOf}
use Rattle.og_report_explore.specs.declared.finding.Row.{Row}
use Rattle.og_report_html.specs.Escapes.{escaped_text}
use Rattle.og_report_html.specs.Table.{each_text}
use Rattle.og_report_prove.specs.declared.diagnosis.Diagnosis.{Diagnosis}
use Rattle.og_report_prove.specs.declared.diagnosis.Diagnosis.TheVariants as diagnosis
use Rattle.og_report_runs.specs.Lines.{start_text, run_line}
use Rattle.og_report_runs.specs.declared.lines.Explored.{Explored}
use Rattle.og_report_runs.specs.declared.witness.Witness.{Witness}
use Rattle.og_report_runs.specs.declared.witness.Run.{Run}
use Rattle.og_report_runs.specs.declared.witness.Run.TheVariants as run

-- the main process has a lane where it has something to do
abbrev pub has_main : Program → Bool
has_main o = is_some o.prologue || is_some o.epilogue

abbrev pub lane_count : ℕ → Bool → ℕ
lane_count processes main = if main then processes + 1 else processes

-- this many empty lanes, as one cell
abbrev pub gap : ℕ → List ℕ
gap n = if n == 0 then [] else codes "<td colspan=" & decimal n & codes ">"

abbrev pub lane_head : ℕ → List ℕ
lane_head p = codes "<th scope=col>process " & decimal (p + 1)

abbrev pub main_head : Bool → List ℕ
main_head true = codes "<th scope=col>main process"
main_head false = []

abbrev pub head_row : ℕ → Bool → List ℕ
head_row processes main = codes "<tr><th scope=col>step" & each_text lane_head 0 processes & main_head main & codes "<th scope=col>sets</tr>\n"

-- the last 40 steps are shown
abbrev pub skipped : List Row → ℕ
skipped rows = length rows - 40

-- over all lanes and the last column, beside the number of steps
abbrev pub wide_row : List ℕ → ℕ → List ℕ → List ℕ
wide_row class lanes text = codes "<tr class=" & class & codes "><td><td colspan=" & decimal (lanes + 1) & codes ">" & text & codes "</tr>\n"

abbrev pub skipped_row : ℕ → ℕ → List ℕ
skipped_row lanes n = if n == 0 then [] else wide_row (codes "faint") lanes (decimal n & codes " steps")

abbrev pub end_row : ℕ → ℕ → List ℕ
end_row lanes condition = wide_row (codes "here") lanes (codes "&#10007; condition " & decimal condition & codes " is false here")

-- the text of each row, numbered on
abbrev pub numbered : (ℕ → Row → List ℕ) → ℕ → List Row → List ℕ
numbered of n [] = []
numbered of n (row ∷ rows) = of n row & numbered of (n + 1) rows

-- the page that is written: whether the source is UTF-8, the names, the source, how many lanes there are
module _ (utf8 : Bool) (names : List (List ℕ)) (source : List ℕ) (lanes : ℕ) where
  -- what a step did stands in the lane of its process
  abbrev pub step_cell : Row → List ℕ
  step_cell row = codes "<td class=step>" & escaped_text utf8 (quote_text 48 source row.item.now.at)

  abbrev pub lane_cells : Row → List ℕ
  lane_cells row = gap row.process & step_cell row & gap (lanes - (row.process + 1))

  abbrev pub sets_cell : Row → List ℕ
  sets_cell row = codes "<td>" & escaped_text utf8 (did_text names row.effect) & codes "</tr>\n"

  abbrev pub step_row : ℕ → Row → List ℕ
  step_row n row = codes "<tr><td>" & decimal n & lane_cells row & sets_cell row

  -- where the run begins
  abbrev pub start_row : Program → List ℤ → List ℕ
  start_row o s = wide_row (codes "faint") lanes (codes "starts from " & escaped_text utf8 (start_text o s))

  abbrev pub body_rows : List Row → List ℕ
  body_rows rows = skipped_row lanes (skipped rows) & numbered step_row (skipped rows + 1) (drop (skipped rows) rows)

  abbrev pub all_rows : Program → ℕ → List ℤ → List Row → List ℕ
  all_rows o condition s rows = start_row o s & body_rows rows & end_row lanes condition

-- the table of a run to a state in which the condition with a number is false
abbrev pub chart_text : Program → List ℕ → ℕ → List ℤ → List Row → List ℕ
chart_text o source condition s rows =
    codes "<div class=wide tabindex=0><table class=run>\n" & head_row (length o.processes) (has_main o)
    & all_rows (is_utf8 source) o.names source (lane_count (length o.processes) (has_main o)) o condition s rows & codes "</table></div>\n"

-- the chart of the steps of the run, or nothing
abbrev pub IsChart : Program → List ℕ → ℕ → Witness → List ℕ → Type 0
IsChart o source condition w text =
    (text ≡ []) ⊎ ((rows : List Row) × AreRowsOf o w.values w.history.items rows × (text ≡ chart_text o source condition w.values rows))

-- ---- the report of the runs to a false condition

abbrev pub IsChartOf : Program → List ℕ → ℕ → Run → List ℕ → Type 0
IsChartOf o source condition (run.Reached w) text = IsChart o source condition w.value text
IsChartOf o source condition run.Never text = text ≡ []
IsChartOf o source condition run.Open text = text ≡ []

-- the line that `prove --runs` prints
abbrev pub line_text : Program → List ℕ → Explored → Run → List ℕ
line_text o source e r =
    codes "<p class=run>" & escaped_text (is_utf8 source) (run_line o (nat_lt 1 e.starts) e.moments r) & codes "</p>\n"

-- that line, and a chart of a run that gets there
abbrev pub IsRunText : Program → List ℕ → Explored → ℕ → Run → List ℕ → Type 0
IsRunText o source e condition r text = (chart : List ℕ) × IsChartOf o source condition r chart × (text ≡ line_text o source e r ++ chart)

-- of a false condition alone
abbrev pub IsRunPart : Program → List ℕ → Explored → ℕ → Diagnosis → Run → List ℕ → Type 0
IsRunPart o source e condition diagnosis.Proved r text = text ≡ []
IsRunPart o source e condition (diagnosis.False block) r text = IsRunText o source e condition r text
IsRunPart o source e condition diagnosis.Open r text = text ≡ []

-- the same of all of them, numbered on
abbrev pub AreRunParts : Program → List ℕ → Explored → ℕ → List Diagnosis → List Run → List (List ℕ) → Type 0
AreRunParts o source e n [] [] [] = ⊤
AreRunParts o source e n (t ∷ ts) (r ∷ rs) (text ∷ texts) = IsRunPart o source e n t r text × AreRunParts o source e (n + 1) ts rs texts
AreRunParts o source e n _ _ _ = ⊥

-- ---- how far the runs were followed

abbrev pub complete_text : Bool → List ℕ
complete_text true = codes ", complete: yes"
complete_text false = codes ", complete: no"

abbrev pub followed_text : Explored → List ℕ
followed_text e = codes "<p>Runs: starts: " & decimal e.starts & codes ", moments: " & decimal e.moments & complete_text e.complete

abbrev pub about_text : Explored → ℕ → List ℕ
about_text e reached = followed_text e & codes ", reached: " & decimal reached & codes "</p>\n"
