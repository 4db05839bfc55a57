use Rattle.std.proofs.Common.{◌≡◌, ◌++◌, None, codes, rules}
use Rattle.std.specs.Prelude.{OnOk}
use Rattle.og_report_prove.proofs.Joins.{joined}
use Rattle.og_report_prove.specs.Blocks.{quoted_line, too_large_line}
use Rattle.og_report_explore.proofs.texts.put_overflow.Goals as goal

pub returns : goal.returns
returns c =
    let r = c.put_too_large.result in
    let t0 = c.args.text.now.items in
    let t1 = c.put_quoted.new.text.items in
    let a1 = quoted_line c.args.page.origins.now.source.now c.args.page.origins.now.rows (codes "next") c.args.at in
    let e1 : t1 ≡ t0 ++ a1 = search rules in
    let e2 : OnOk r (c.put_too_large.new.text.items ≡ t1 ++ too_large_line c.args.page.names.now c.args.var c.args.value) = search rules in
    joined r t0 t1 _ a1 _ e1 e2
