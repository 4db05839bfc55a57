use Rattle.std.proofs.Common.{◌≡◌, ◌++◌, codes, rules}
use Rattle.std.specs.Prelude.{OnOk}
use Rattle.std.specs.Fmt.{decimal}
use Rattle.og_cond.specs.Names.{name_of_kind}
use Rattle.og_report_text.specs.Origins.{place_text_at, with_place_text}
use Rattle.og_report_prove.specs.Together.{more_text}
use Rattle.og_report_prove.proofs.Joins.{joined}
use Rattle.og_report_prove.proofs.reporting.put_head.Goals as goal

pub returns : goal.returns
returns c =
    let source = c.args.origins.now.source.now in
    let rows = c.args.origins.now.rows in
    let condition = c.args.condition.now in
    let r = c.put_found.result in
    let t0 = c.args.text.now.items in
    let t1 = c.put_place.new.text.items in
    let t2 = c.extend_from_slice.new.self.items in
    let t3 = c.put_number.new.text.items in
    let t4 = c.extend_from_slice-2.new.self.items in
    let t5 = c.extend_from_slice-3.new.self.items in
    let t6 = c.put_action_place.new.text.items in
    let t7 = c.extend_from_slice-4.new.self.items in
    let a1 = place_text_at source rows condition.at in
    let a2 = codes ": condition " in
    let a3 = decimal c.args.number in
    let a4 = codes " " in
    let a5 = name_of_kind condition.kind in
    let a6 = with_place_text source rows condition.action_at in
    let a7 = codes ": " in
    let a8 = c.args.word.now ++ (more_text c.args.more ++ codes "\n") in
    let e1 : t1 ≡ t0 ++ a1 = search rules in
    let e2 : t2 ≡ t1 ++ a2 = search rules in
    let e3 : t3 ≡ t2 ++ a3 = search rules in
    let e4 : t4 ≡ t3 ++ a4 = search rules in
    let e5 : t5 ≡ t4 ++ a5 = search rules in
    let e6 : t6 ≡ t5 ++ a6 = search rules in
    let e7 : t7 ≡ t6 ++ a7 = search rules in
    let e8 : OnOk r (c.put_found.new.text.items ≡ t7 ++ a8) = search rules in
    joined r t0 t1 _ a1 _ e1 (joined r t1 t2 _ a2 _ e2 (joined r t2 t3 _ a3 _ e3 (joined r t3 t4 _ a4 _ e4 (joined r t4 t5 _ a5 _ e5 (joined r t5 t6 _ a6 _ e6 (joined r t6 t7 _ a7 _ e7 e8))))))
