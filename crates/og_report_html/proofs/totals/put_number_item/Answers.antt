use Rattle.std.proofs.Common.{◌≡◌, ◌++◌, codes, rules}
use Rattle.std.specs.Prelude.{OnOk}
use Rattle.std.specs.Fmt.{decimal}
use Rattle.og_report_text.proofs.Joins.{joined, joined_three}
use Rattle.og_report_html.proofs.totals.put_number_item.Goals as goal

pub returns : goal.returns
returns c =
    let r = c.extend_from_slice.result in
    let t0 = c.args.text.now.items in
    let t1 = c.put_between.new.text.items in
    let t2 = c.put_number.new.text.items in
    let number = decimal c.args.number in
    let behind = codes "</b></li>\n" in
    let e2 : t2 ≡ t1 ++ number = search rules in
    let e3 : OnOk r (c.extend_from_slice.new.self.items ≡ t2 ++ behind) = search rules in
    joined_three r t0 t1 _ (codes "<li>") c.args.word.now (codes " <b>") _ c.in_ok-put_between.ensures (joined r t1 t2 _ number behind e2 e3)
