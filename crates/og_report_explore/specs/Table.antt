-- The table of the steps of a run.
use Rattle.std.specs.Prelude.{ℕ, ◌+◌, ◌-◌, ◌==◌, max, ℤ, List, [], ◌∷◌, length, replicate, true, false, if◌then◌else◌, codes}
use Rattle.std.specs.Fmt.{decimal}
use Rattle.og_report_text.specs.Origins.{Rows, place_text_at, quoted_at}
use Rattle.og_report_text.specs.Places.{◌&◌}
use Rattle.og_report_text.specs.Processes.{printed_number}
use Rattle.og_report_text.specs.Values.{value_text}
use Rattle.og_report_explore.specs.declared.finding.Effect.{Effect}
use Rattle.og_report_explore.specs.declared.finding.Effect.TheVariants as effect
use Rattle.og_report_explore.specs.declared.finding.Row.{Row}
use Rattle.og_report_explore.specs.declared.table.Column.{Column}
use Rattle.og_report_explore.specs.declared.table.Column.TheVariants as column
use Rattle.og_report_explore.specs.declared.table.Widths.{Widths}

abbrev pub heading : Column → List ℕ
heading column.Step = codes "step"
heading column.Process = codes "process"
heading column.Place = codes "place"
heading column.Statement = codes "statement"

-- two blanks, and a cell as wide as its column
abbrev pub padded : ℕ → List ℕ → List ℕ
padded width cell = codes "  " & cell & replicate (width - length cell) 32

-- the greatest size of the rows, numbered on from n, and of what was before them
abbrev pub widest : (ℕ → Row → ℕ) → ℕ → ℕ → List Row → ℕ
widest size width n [] = width
widest size width n (row ∷ rows) = widest size (max width (size n row)) (n + 1) rows

abbrev pub head_line : Widths → List ℕ
head_line w =
    padded w.step (codes "step") & padded w.process (codes "process") & padded w.place (codes "place")
    & padded w.statement (codes "statement") & codes "  sets\n"

module _ (names : List (List ℕ)) where
  -- NAME = INT, with commas between them; this stands before the first
  abbrev pub entries_text : List ℕ → List (ℕ × ℤ) → List ℕ
  entries_text opening [] = []
  entries_text opening (e ∷ es) = (opening & value_text names e.0 e.1) & entries_text (codes ", ") es

  -- what a step did
  abbrev pub did_text : Effect → List ℕ
  did_text (effect.Tested true) = codes "true"
  did_text (effect.Tested false) = codes "false"
  did_text (effect.Assigned entries) = if length entries.items == 0 then codes "-" else entries_text [] entries.items

  module _ (source : List ℕ) (origins : Rows) (main : ℕ) where
    -- a cell of the row with this number
    abbrev pub cell_text : Column → ℕ → Row → List ℕ
    cell_text column.Step n row = decimal n
    cell_text column.Process n row = decimal (printed_number main row.process)
    cell_text column.Place n row = place_text_at source origins row.item.now.at
    cell_text column.Statement n row = quoted_at 48 source origins row.item.now.at

    -- as wide as its widest cell
    abbrev pub width_of : List Row → Column → ℕ
    width_of rows c = widest (λ n row. length (cell_text c n row)) (length (heading c)) 1 rows

    abbrev pub widths_of : List Row → Widths
    widths_of rows = record {
      step = width_of rows column.Step;
      process = width_of rows column.Process;
      place = width_of rows column.Place;
      statement = width_of rows column.Statement;
    }

    abbrev pub row_line : Widths → ℕ → Row → List ℕ
    row_line w n row =
        padded w.step (cell_text column.Step n row) & padded w.process (cell_text column.Process n row)
        & padded w.place (cell_text column.Place n row) & padded w.statement (cell_text column.Statement n row)
        & codes "  " & did_text row.effect & codes "\n"

    abbrev pub row_lines : Widths → ℕ → List Row → List ℕ
    row_lines w n [] = []
    row_lines w n (row ∷ rows) = row_line w n row & row_lines w (n + 1) rows

    -- no table where there are no steps
    abbrev pub table_text : List Row → List ℕ
    table_text rows = if length rows == 0 then [] else head_line (widths_of rows) & row_lines (widths_of rows) 1 rows
