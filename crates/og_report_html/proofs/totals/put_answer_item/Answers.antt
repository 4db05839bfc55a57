use Rattle.std.proofs.Common.{◌≡◌, ◌++◌, codes, rules}
use Rattle.std.specs.Prelude.{OnOk}
use Rattle.og_report_html.specs.Totals.{yes_item}
use Rattle.og_report_prove.proofs.Joins.{joined}
use Rattle.og_report_html.proofs.totals.put_answer_item.Goals as goal

pub returns : goal.returns
returns c =
    let r = c.put_yes_item.result in
    let t0 = c.args.text.now.items in
    let t1 = c.extend_from_slice.new.self.items in
    let t2 = c.extend_from_slice-2.new.self.items in
    let a1 = codes "<li>" in
    let a2 = c.args.word.now in
    let a3 = yes_item c.args.yes in
    let e1 : t1 ≡ t0 ++ a1 = c.in_ok-extend_from_slice.ensures.items in
    let e2 : t2 ≡ t1 ++ a2 = c.in_ok-extend_from_slice-2.ensures.items in
    let e3 : OnOk r (c.put_yes_item.new.text.items ≡ t2 ++ a3) = search rules in
    joined r t0 t1 _ a1 _ e1 (joined r t1 t2 _ a2 a3 e2 e3)
