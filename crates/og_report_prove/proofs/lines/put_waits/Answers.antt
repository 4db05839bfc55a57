use Rattle.std.proofs.Common.{◌≡◌, ◌++◌, false, codes, rules}
use Rattle.std.specs.Prelude.{OnOk}
use Rattle.og_report_text.specs.Origins.{place_text_at, quoted_at}
use Rattle.og_report_text.proofs.Joins.{joined, joined_four}
use Rattle.og_report_prove.specs.Sentences.{part_text}
use Rattle.og_report_prove.proofs.lines.put_waits.Goals as goal

pub returns : goal.returns
returns c =
    let source = c.args.origins.now.source.now in
    let rows = c.args.origins.now.rows in
    let site = c.args.site.now in
    let r = c.extend_from_slice-2.result in
    let t0 = c.args.text.now.items in
    let t1 = c.put_standing.new.text.items in
    let t2 = c.extend_from_slice.new.self.items in
    let t3 = c.put_quote.new.text.items in
    let a2 = codes ": " in
    let a3 = quoted_at 72 source rows site.item.now.at in
    let e2 : t2 ≡ t1 ++ a2 = c.in_ok-extend_from_slice.ensures.items in
    let e3 : t3 ≡ t2 ++ a3 = search rules in
    let e4 : OnOk r (c.extend_from_slice-2.new.self.items ≡ t3 ++ codes "\n") = search rules in
    joined_four r t0 t1 _ (codes "  ") (part_text false site.part) (codes " waits at ") (place_text_at source rows site.item.now.at) _ c.in_ok-put_standing.ensures
    (joined r t1 t2 _ a2 _ e2 (joined r t2 t3 _ a3 _ e3 e4))
