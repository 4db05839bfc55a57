use Rattle.std.proofs.Common.{◌≡◌, ◌++◌, map, true, Some, OnOk, subst, rules}
use Rattle.og_typed.specs.Plain.{noted}
use Rattle.og_report_findings.specs.Bounds.{assigned, numbers_at}
use Rattle.og_report_findings.specs.Hints.{is_hint, hint_text}
use Rattle.og_report_findings.proofs.Hinted.{hinted}
use Rattle.og_report_findings.proofs.hints.Hints.put_line.Goals as goal

pub returns : goal.returns
returns c =
    let o = c.args.self.now in
    let known = map (λ n. noted n.now) c.args.place.known.now in
    let values = c.args.place.values.now in
    let ns = c.in-Some.numbers.now in
    let there : Some ns ≡ numbers_at (assigned o) c.args.var = search rules in
    let is : is_hint o known values c.args.var ns ≡ true = search rules in
    let r = c.put_hint.result in
    let old = c.args.text.now.items in
    let new = c.put_hint.new.text.items in
    let named : c.names.result.now ≡ o.names = search rules in
    hinted o known values c.args.var ns _ r old new there is
    (subst (λ names. OnOk r (new ≡ old ++ hint_text names c.args.var ns)) named c.put_hint.ensures)
