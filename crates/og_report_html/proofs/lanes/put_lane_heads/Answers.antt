use Rattle.std.proofs.Common.{◌++◌, rules}
use Rattle.og_report_html.specs.Table.{each_text}
use Rattle.og_report_html.proofs.Steps.{each_goes, each_ends}
use Rattle.og_report_html.specs.Lanes.{lane_head}
use Rattle.og_report_html.proofs.lanes.put_lane_heads.Goals as goal

pub loop-process-preserved : goal.loop-process-preserved
loop-process-preserved c =
    each_goes lane_head c.loop-process.process c.args.count c.loop-process.text.items c.put_lane_head.new.text.items (c.args.text.now.items ++ each_text lane_head 0 c.args.count)
    c.loop-process-test.true c.in_ok-put_lane_head.ensures c.loop-process.invariant

pub returns : goal.returns
returns c = each_ends lane_head c.loop-process.process c.args.count c.loop-process.text.items (c.args.text.now.items ++ each_text lane_head 0 c.args.count) (search rules) c.loop-process.invariant
