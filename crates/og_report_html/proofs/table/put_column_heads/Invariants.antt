use Rattle.std.proofs.Common.{◌≡◌, ◌-◌, ◌++◌}
use Rattle.og_report_html.specs.Table.{each_text, column_head}
use Rattle.og_report_html.proofs.table.put_column_heads.Given as goal

abbrev pub invariant-loop-process : goal.invariant-loop-process
invariant-loop-process l = l.text.items ++ each_text column_head l.process (l.count - l.process) ≡ l.initial.text.items ++ each_text column_head 0 l.count
