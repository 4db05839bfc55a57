use Rattle.std.proofs.Common.{◌≡◌, ◌++◌, codes, rules}
use Rattle.std.specs.Prelude.{OnOk}
use Rattle.og_report_prove.proofs.Joins.{joined}
use Rattle.og_report_explore.specs.Table.{padded, cell_text, did_text}
use Rattle.og_report_explore.specs.declared.table.Column.TheVariants as column
use Rattle.og_report_explore.proofs.table.put_row.Goals as goal

pub returns : goal.returns
returns c =
    let r = c.extend_from_slice-2.result in
    let t0 = c.args.text.now.items in
    let t1 = c.put_wide.new.text.items in
    let t2 = c.put_wide-2.new.text.items in
    let t3 = c.put_wide-3.new.text.items in
    let t4 = c.put_wide-4.new.text.items in
    let t5 = c.extend_from_slice.new.self.items in
    let t6 = c.put_did.new.text.items in
    let a1 = padded c.args.widths.step (cell_text c.args.page.names.now c.args.page.origins.now.source.now c.args.page.origins.now.rows c.args.page.main column.Step c.args.number c.args.row.now) in
    let a2 = padded c.args.widths.process (cell_text c.args.page.names.now c.args.page.origins.now.source.now c.args.page.origins.now.rows c.args.page.main column.Process c.args.number c.args.row.now) in
    let a3 = padded c.args.widths.place (cell_text c.args.page.names.now c.args.page.origins.now.source.now c.args.page.origins.now.rows c.args.page.main column.Place c.args.number c.args.row.now) in
    let a4 = padded c.args.widths.statement (cell_text c.args.page.names.now c.args.page.origins.now.source.now c.args.page.origins.now.rows c.args.page.main column.Statement c.args.number c.args.row.now) in
    let a5 = codes "  " in
    let a6 = did_text c.args.page.names.now c.args.row.now.effect in
    let e1 : t1 ≡ t0 ++ a1 = search rules in
    let e2 : t2 ≡ t1 ++ a2 = search rules in
    let e3 : t3 ≡ t2 ++ a3 = search rules in
    let e4 : t4 ≡ t3 ++ a4 = search rules in
    let e5 : t5 ≡ t4 ++ a5 = search rules in
    let e6 : t6 ≡ t5 ++ a6 = search rules in
    let e7 : OnOk r (c.extend_from_slice-2.new.self.items ≡ t6 ++ (codes "\n")) = search rules in
    joined r t0 t1 _ a1 _ e1 (joined r t1 t2 _ a2 _ e2 (joined r t2 t3 _ a3 _ e3 (joined r t3 t4 _ a4 _ e4 (joined r t4 t5 _ a5 _ e5 (joined r t5 t6 _ a6 _ e6 e7)))))
