use Rattle.std.proofs.Common.{◌≡◌, ◌++◌, Some, codes, rules, subst, sym}
use Rattle.std.specs.Prelude.{OnOk}
use Rattle.og_report_html.specs.Source.{link_start, assertion_start}
use Rattle.og_report_html.specs.declared.marks.Mark.TheVariants as mark
use Rattle.og_report_prove.proofs.Joins.{joined}
use Rattle.og_report_html.proofs.Steps.{on_ok}
use Rattle.og_report_html.proofs.source.put_assertion_start.Goals as goal

pub returns-in_ok-put_link-in-Some-False : goal.returns-in_ok-put_link-in-Some-False
returns-in_ok-put_link-in-Some-False c =
    let n = c.in-Some-False.number in
    let r = c.extend_from_slice-in-Some-False.result in
    let t0 = c.args.text.now.items in
    let t1 = c.put_link.new.text.items in
    let t2 = c.extend_from_slice-in-Some-False.new.self.items in
    let a1 = link_start (codes "false") n in
    let a2 = codes "<b>&#10007;</b>" in
    let is : c.args.mark ≡ Some (mark.False n) = search rules in
    let e1 : t1 ≡ t0 ++ a1 = search rules in
    let e2 : OnOk r (t2 ≡ t1 ++ a2) = on_ok r t2 (t1 ++ a2) t1 c.extend_from_slice-in-Some-False.ensures.items in
    subst (λ m. OnOk r (t2 ≡ t0 ++ assertion_start m)) (sym is) (joined r t0 t1 _ a1 a2 e1 e2)
