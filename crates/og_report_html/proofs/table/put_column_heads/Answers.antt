use Rattle.std.proofs.Common.{◌++◌, rules}
use Rattle.og_report_html.specs.Table.{each_text, column_head}
use Rattle.og_report_html.proofs.Steps.{each_goes, each_ends}
use Rattle.og_report_html.proofs.table.put_column_heads.Goals as goal

pub loop-process-preserved : goal.loop-process-preserved
loop-process-preserved c =
    each_goes column_head c.loop-process.process c.args.count c.loop-process.text.items c.put_column_head.new.text.items (c.args.text.now.items ++ each_text column_head 0 c.args.count)
    c.loop-process-test.true c.in_ok-put_column_head.ensures c.loop-process.invariant

pub returns : goal.returns
returns c = each_ends column_head c.loop-process.process c.args.count c.loop-process.text.items (c.args.text.now.items ++ each_text column_head 0 c.args.count) (search rules) c.loop-process.invariant
