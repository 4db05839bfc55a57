use Rattle.std.proofs.Common.{◌++◌, rules}
use Rattle.og_report_html.specs.Table.{each_text, row_text}
use Rattle.og_report_html.proofs.Steps.{each_goes, each_ends}
use Rattle.og_report_html.proofs.table.put_rows.Goals as goal

pub loop-process-preserved : goal.loop-process-preserved
loop-process-preserved c =
    each_goes (row_text c.args.count c.args.disturbances.wrong.now c.args.disturbances.unknown.now) c.loop-process.process c.args.count c.loop-process.text.items c.put_row.new.text.items (c.args.text.now.items ++ each_text (row_text c.args.count c.args.disturbances.wrong.now c.args.disturbances.unknown.now) 0 c.args.count)
    c.loop-process-test.true c.in_ok-put_row.ensures c.loop-process.invariant

pub returns : goal.returns
returns c = each_ends (row_text c.args.count c.args.disturbances.wrong.now c.args.disturbances.unknown.now) c.loop-process.process c.args.count c.loop-process.text.items (c.args.text.now.items ++ each_text (row_text c.args.count c.args.disturbances.wrong.now c.args.disturbances.unknown.now) 0 c.args.count) (search rules) c.loop-process.invariant
