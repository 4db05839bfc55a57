use Rattle.std.proofs.Common.{◌≡◌, ◌+◌, drop, length}
use Rattle.og_report_explore.specs.Table.{widest, width_of, cell_text}
use Rattle.og_report_explore.proofs.table.width.Given as goal

abbrev pub invariant-loop-index : goal.invariant-loop-index
invariant-loop-index l =
    widest (λ n row. length (cell_text l.page.names.now l.page.origins.now.source.now l.page.origins.now.rows l.page.main l.column n row)) l.width (l.index + 1) (drop l.index l.rows)
    ≡ width_of l.page.names.now l.page.origins.now.source.now l.page.origins.now.rows l.page.main l.rows l.column
