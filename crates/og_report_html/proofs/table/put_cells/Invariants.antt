use Rattle.std.proofs.Common.{◌≡◌, ◌-◌, ◌++◌}
use Rattle.og_report_html.specs.Table.{each_text, cell_text}
use Rattle.og_report_html.proofs.table.put_cells.Given as goal

abbrev pub invariant-loop-process : goal.invariant-loop-process
invariant-loop-process l = l.text.items ++ each_text (cell_text l.disturbances.wrong.now l.disturbances.unknown.now) l.process (l.count - l.process) ≡ l.initial.text.items ++ each_text (cell_text l.disturbances.wrong.now l.disturbances.unknown.now) 0 l.count
