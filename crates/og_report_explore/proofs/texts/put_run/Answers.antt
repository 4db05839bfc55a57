use Rattle.std.proofs.Common.{◌≡◌, ◌++◌, codes, rules}
use Rattle.std.specs.Prelude.{OnOk}
use Rattle.og_report_prove.proofs.Joins.{joined}
use Rattle.og_report_explore.specs.Table.{table_text}
use Rattle.og_report_explore.specs.Texts.{all_line}
use Rattle.og_report_explore.proofs.texts.put_run.Goals as goal

pub returns : goal.returns
returns c =
    let r = c.put_all_line-2.result in
    let t0 = c.args.text.now.items in
    let t1 = c.put_all_line.new.text.items in
    let t2 = c.put_table.new.text.items in
    let a1 = all_line c.args.page.names.now (codes "start") c.args.finding.now.start in
    let a2 = table_text c.args.page.names.now c.args.page.origins.now.source.now c.args.page.origins.now.rows c.args.page.main c.args.finding.now.rows.items in
    let e1 : t1 ≡ t0 ++ a1 = search rules in
    let e2 : t2 ≡ t1 ++ a2 = search rules in
    let e3 : OnOk r (c.put_all_line-2.new.text.items ≡ t2 ++ all_line c.args.page.names.now (codes "state") c.args.finding.now.state) = search rules in
    joined r t0 t1 _ a1 _ e1 (joined r t1 t2 _ a2 _ e2 e3)
