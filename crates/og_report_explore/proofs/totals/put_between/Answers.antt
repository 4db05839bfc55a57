use Rattle.std.proofs.Common.{◌≡◌, ◌++◌, codes, rules}
use Rattle.std.specs.Prelude.{OnOk}
use Rattle.og_report_prove.proofs.Joins.{joined}
use Rattle.std.specs.Prelude.{slice_get, true}
use Rattle.og_report_text.specs.Listing.{name_text, constant_text}
use Rattle.og_report_explore.proofs.totals.put_between.Goals as goal

pub returns : goal.returns
returns c =
    let r = c.put_constant-2.result in
    let t0 = c.args.text.now.items in
    let t1 = c.put_name.new.text.items in
    let t2 = c.extend_from_slice.new.self.items in
    let t3 = c.put_constant.new.text.items in
    let t4 = c.extend_from_slice-2.new.self.items in
    let a1 = name_text (slice_get c.args.names.now c.args.var) in
    let a2 = codes " = " in
    let a3 = constant_text true c.args.low in
    let a4 = codes ".." in
    let e1 : t1 ≡ t0 ++ a1 = search rules in
    let e2 : t2 ≡ t1 ++ a2 = search rules in
    let e3 : t3 ≡ t2 ++ a3 = search rules in
    let e4 : t4 ≡ t3 ++ a4 = search rules in
    let e5 : OnOk r (c.put_constant-2.new.text.items ≡ t4 ++ constant_text true c.args.high) = search rules in
    joined r t0 t1 _ a1 _ e1 (joined r t1 t2 _ a2 _ e2 (joined r t2 t3 _ a3 _ e3 (joined r t3 t4 _ a4 _ e4 e5)))
