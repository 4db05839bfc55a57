use Rattle.std.proofs.Common.{◌≡◌, ◌+◌, ◌++◌, codes, rules}
use Rattle.std.specs.Prelude.{OnOk}
use Rattle.std.specs.Fmt.{decimal}
use Rattle.std.specs.List.{filter}
use Rattle.og_report_html.specs.Table.{is_by, cells_text}
use Rattle.og_report_text.proofs.Joins.{joined, joined_three}
use Rattle.og_report_html.proofs.table.Disturbances.put_row.Goals as goal

pub returns : goal.returns
returns c =
    let r = c.extend_from_slice.result in
    let t0 = c.args.text.now.items in
    let t1 = c.put_number_between.new.text.items in
    let t2 = c.put_cells_of.new.text.items in
    let a1 = codes "<tr><th scope=row>" in
    let a2 = decimal (c.args.process + 1) in
    let a3 = codes "</th>" in
    let a4 = cells_text (filter (is_by c.args.process) c.args.self.now.wrong.now) (filter (is_by c.args.process) c.args.self.now.unknown.now) c.args.count in
    let a5 = codes "</tr>\n" in
    let e1 : t1 ≡ t0 ++ (a1 ++ (a2 ++ a3)) = c.in_ok-put_number_between.ensures in
    let e2 : t2 ≡ t1 ++ a4 = c.in_ok-put_cells_of.ensures in
    let e3 : OnOk r (c.extend_from_slice.new.self.items ≡ t2 ++ a5) = search rules in
    joined_three r t0 t1 _ a1 a2 a3 _ e1 (joined r t1 t2 _ a4 a5 e2 e3)
