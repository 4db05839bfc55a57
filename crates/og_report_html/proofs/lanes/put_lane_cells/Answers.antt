use Rattle.std.proofs.Common.{◌≡◌, ◌+◌, ◌-◌, ◌++◌, rules}
use Rattle.std.specs.Prelude.{OnOk}
use Rattle.og_report_prove.proofs.Joins.{joined}
use Rattle.og_report_html.specs.Lanes.{gap, step_cell}
use Rattle.og_report_html.proofs.lanes.put_lane_cells.Goals as goal

pub returns : goal.returns
returns c =
    let frame = c.args.frame in
    let row = c.args.row.now in
    let r = c.put_gap-2.result in
    let t0 = c.args.text.now.items in
    let t1 = c.put_gap.new.text.items in
    let t2 = c.put_step_cell.new.text.items in
    let a1 = gap row.process in
    let a2 = step_cell frame.utf8 frame.names.now frame.source.now frame.lanes row in
    let a3 = gap (frame.lanes - (row.process + 1)) in
    let e1 : t1 ≡ t0 ++ a1 = c.in_ok-put_gap.ensures in
    let e2 : t2 ≡ t1 ++ a2 = c.in_ok-put_step_cell.ensures in
    let e3 : OnOk r (c.put_gap-2.new.text.items ≡ t2 ++ a3) = search rules in
    joined r t0 t1 _ a1 _ e1 (joined r t1 t2 _ a2 a3 e2 e3)
