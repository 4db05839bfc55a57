use Rattle.std.proofs.Common.{◌≡◌, ◌++◌, rules}
use Rattle.std.specs.Prelude.{OnOk}
use Rattle.std.specs.Fmt.{decimal}
use Rattle.og_report_text.proofs.Joins.{joined, joined_three}
use Rattle.og_report_html.proofs.links.put_twice.Goals as goal

pub returns : goal.returns
returns c =
    let r = c.extend_from_slice.result in
    let t0 = c.args.text.now.items in
    let t1 = c.put_number_between.new.text.items in
    let t2 = c.put_number.new.text.items in
    let n = decimal c.args.number in
    let e2 : t2 ≡ t1 ++ n = search rules in
    let e3 : OnOk r (c.extend_from_slice.new.self.items ≡ t2 ++ c.args.closing.now) = search rules in
    joined_three r t0 t1 _ c.args.opening.now n c.args.between.now _ c.in_ok-put_number_between.ensures (joined r t1 t2 _ n _ e2 e3)
