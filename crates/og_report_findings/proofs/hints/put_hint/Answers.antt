use Rattle.std.proofs.Common.{◌≡◌, ◌++◌, [], OnOk, codes, rules}
use Rattle.og_report_prove.proofs.Joins.{joined}
use Rattle.og_report_findings.specs.Hints.{named_text, numbers_text}
use Rattle.og_report_findings.proofs.hints.put_hint.Goals as goal

pub returns : goal.returns
returns c =
    let r = c.extend_from_slice.result in
    let t0 = c.args.text.now.items in
    let t1 = c.put_named.new.text.items in
    let t2 = c.put_numbers.new.text.items in
    let a1 = named_text c.args.names.now (codes "  no assertion here bounds ") c.args.var (codes ", which is assigned ") in
    let a2 = numbers_text [] c.args.numbers.now in
    let last : OnOk r (c.extend_from_slice.new.self.items ≡ t2 ++ codes " alone\n") = search rules in
    joined r t0 t1 _ a1 _ c.in_ok-put_named.ensures (joined r t1 t2 _ a2 _ c.in_ok-put_numbers.ensures last)
