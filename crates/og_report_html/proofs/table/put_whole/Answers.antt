use Rattle.std.proofs.Common.{◌≡◌, ◌++◌, rules}
use Rattle.std.specs.Prelude.{OnOk}
use Rattle.og_report_html.specs.Table.{head_rows, rows_text}
use Rattle.og_report_html.specs.declared.constants.TheConstants.{BEFORE_TABLE, AFTER_TABLE}
use Rattle.og_report_prove.proofs.Joins.{joined}
use Rattle.og_report_html.proofs.table.put_whole.Goals as goal

pub returns : goal.returns
returns c =
    let r = c.extend_from_slice-2.result in
    let t0 = c.args.text.now.items in
    let t1 = c.extend_from_slice.new.self.items in
    let t2 = c.put_head.new.text.items in
    let t3 = c.put_rows.new.text.items in
    let a1 = BEFORE_TABLE.now in
    let a2 = head_rows c.args.count in
    let a3 = rows_text c.args.count c.args.disturbances.wrong.now c.args.disturbances.unknown.now in
    let a4 = AFTER_TABLE.now in
    let e1 : t1 ≡ t0 ++ a1 = c.in_ok-extend_from_slice.ensures.items in
    let e2 : t2 ≡ t1 ++ a2 = search rules in
    let e3 : t3 ≡ t2 ++ a3 = search rules in
    let e4 : OnOk r (c.extend_from_slice-2.new.self.items ≡ t3 ++ a4) = search rules in
    joined r t0 t1 _ a1 _ e1 (joined r t1 t2 _ a2 _ e2 (joined r t2 t3 _ a3 a4 e3 e4))
