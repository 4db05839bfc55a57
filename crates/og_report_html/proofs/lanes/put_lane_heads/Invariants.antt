use Rattle.std.proofs.Common.{◌≡◌, ◌-◌, ◌++◌}
use Rattle.og_report_html.specs.Table.{each_text}
use Rattle.og_report_html.specs.Lanes.{lane_head}
use Rattle.og_report_html.proofs.lanes.put_lane_heads.Given as goal

abbrev pub invariant-loop-process : goal.invariant-loop-process
invariant-loop-process l = l.text.items ++ each_text lane_head l.process (l.count - l.process) ≡ l.initial.text.items ++ each_text lane_head 0 l.count
