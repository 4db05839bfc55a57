use Rattle.std.proofs.Common.{◌≡◌, ◌++◌, codes}
use Rattle.std.specs.Prelude.{OnOk}
use Rattle.std.specs.List.{filter}
use Rattle.og_report_html.specs.Table.{is_on, share_text}
use Rattle.og_report_html.specs.declared.finding.Finding.TheVariants as finding
use Rattle.og_report_prove.proofs.Joins.{joined}
use Rattle.og_report_html.proofs.table.Disturbances.put_cell.Goals as goal

pub returns : goal.returns
returns c =
    let r = c.put_share_on-2.result in
    let t0 = c.args.text.now.items in
    let t1 = c.extend_from_slice.new.self.items in
    let t2 = c.put_share_on.new.text.items in
    let a1 = codes "<td>" in
    let a2 = share_text finding.False (filter (is_on c.args.process) c.args.self.now.wrong.now) in
    let a3 = share_text finding.Open (filter (is_on c.args.process) c.args.self.now.unknown.now) in
    let e1 : t1 ≡ t0 ++ a1 = c.in_ok-extend_from_slice.ensures.items in
    let e2 : t2 ≡ t1 ++ a2 = c.in_ok-put_share_on.ensures in
    let e3 : OnOk r (c.put_share_on-2.new.text.items ≡ t2 ++ a3) = c.put_share_on-2.ensures in
    joined r t0 t1 _ a1 _ e1 (joined r t1 t2 _ a2 a3 e2 e3)
