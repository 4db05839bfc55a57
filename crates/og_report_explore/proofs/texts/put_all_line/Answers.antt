use Rattle.std.proofs.Common.{◌≡◌, ◌++◌, codes, rules}
use Rattle.std.specs.Prelude.{OnOk}
use Rattle.og_report_text.proofs.Joins.{joined, joined_three}
use Rattle.og_report_explore.specs.Texts.{all_values}
use Rattle.og_report_explore.proofs.texts.put_all_line.Goals as goal

pub returns : goal.returns
returns c =
    let r = c.extend_from_slice.result in
    let t0 = c.args.text.now.items in
    let t1 = c.put_label.new.text.items in
    let t2 = c.put_all_values.new.text.items in
    let all = all_values c.args.names.now c.args.values.now in
    let e2 : t2 ≡ t1 ++ all = search rules in
    let e3 : OnOk r (c.extend_from_slice.new.self.items ≡ t2 ++ codes "\n") = search rules in
    joined_three r t0 t1 _ (codes "  ") c.args.word.now (codes ": ") _ c.in_ok-put_label.ensures (joined r t1 t2 _ all _ e2 e3)
