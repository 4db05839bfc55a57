use Rattle.std.proofs.Common.{◌≡◌, ◌++◌, codes, rules}
use Rattle.std.specs.Prelude.{OnOk}
use Rattle.og_report_text.specs.Values.{value_text}
use Rattle.og_report_prove.specs.Blocks.{word_text}
use Rattle.og_report_prove.proofs.Joins.{joined}
use Rattle.og_report_prove.proofs.lines.put_too_large.Goals as goal

pub returns : goal.returns
returns c =
    let r = c.extend_from_slice.result in
    let t0 = c.args.text.now.items in
    let t1 = c.put_label.new.text.items in
    let t2 = c.put_value.new.text.items in
    let a1 = word_text (codes "too large") in
    let a2 = value_text c.args.names.now c.args.var c.args.value in
    let e1 : t1 ≡ t0 ++ a1 = c.in_ok-put_label.ensures in
    let e2 : t2 ≡ t1 ++ a2 = search rules in
    let e3 : OnOk r (c.extend_from_slice.new.self.items ≡ t2 ++ codes "\n") = search rules in
    joined r t0 t1 _ a1 _ e1 (joined r t1 t2 _ a2 _ e2 e3)
