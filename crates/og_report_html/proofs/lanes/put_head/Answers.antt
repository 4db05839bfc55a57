use Rattle.std.proofs.Common.{◌≡◌, ◌++◌, codes, rules}
use Rattle.std.specs.Prelude.{OnOk}
use Rattle.og_report_html.specs.Table.{each_text}
use Rattle.og_report_prove.proofs.Joins.{joined}
use Rattle.og_report_html.specs.Lanes.{lane_head, main_head}
use Rattle.og_report_html.proofs.lanes.put_head.Goals as goal

pub returns : goal.returns
returns c =
    let r = c.extend_from_slice-2.result in
    let t0 = c.args.text.now.items in
    let t1 = c.extend_from_slice.new.self.items in
    let t2 = c.put_lane_heads.new.text.items in
    let t3 = c.put_main_head.new.text.items in
    let a1 = codes "<tr><th scope=col>step" in
    let a2 = each_text lane_head 0 c.args.processes in
    let a3 = main_head c.args.main in
    let a4 = codes "<th scope=col>sets</tr>\n" in
    let e1 : t1 ≡ t0 ++ a1 = c.in_ok-extend_from_slice.ensures.items in
    let e2 : t2 ≡ t1 ++ a2 = search rules in
    let e3 : t3 ≡ t2 ++ a3 = search rules in
    let e4 : OnOk r (c.extend_from_slice-2.new.self.items ≡ t3 ++ a4) = search rules in
    joined r t0 t1 _ a1 _ e1 (joined r t1 t2 _ a2 _ e2 (joined r t2 t3 _ a3 a4 e3 e4))
