use Rattle.std.proofs.Common.{◌≡◌, ◌+◌, ◌++◌, drop}
use Rattle.og_report_explore.specs.Table.{row_lines}
use Rattle.og_report_explore.proofs.table.put_rows.Given as goal

abbrev pub invariant-loop-index : goal.invariant-loop-index
invariant-loop-index l =
    l.text.items ++ row_lines l.page.names.now l.page.origins.now.source.now l.page.origins.now.rows l.page.main l.widths (l.index + 1) (drop l.index l.rows)
    ≡ l.initial.text.items ++ row_lines l.page.names.now l.page.origins.now.source.now l.page.origins.now.rows l.page.main l.widths 1 l.rows
