use Rattle.std.proofs.Common.{◌≡◌, ◌++◌, rules}
use Rattle.std.specs.Prelude.{OnOk}
use Rattle.og_report_findings.specs.Verdicts.{concluded, words_of}
use Rattle.og_report_html.specs.Totals.{totals_items}
use Rattle.og_report_html.specs.declared.constants.TheConstants.{BEFORE_TOTALS, BEFORE_SOURCE}
use Rattle.og_report_prove.proofs.Joins.{joined}
use Rattle.og_report_html.proofs.whole.put_summary.Goals as goal

pub returns : goal.returns
returns c =
    let ts = c.args.diagnoses.now in
    let r = c.extend_from_slice-3.result in
    let t0 = c.args.text.now.items in
    let t1 = c.extend_from_slice.new.self.items in
    let t2 = c.extend_from_slice-2.new.self.items in
    let t3 = c.put_totals.new.text.items in
    let a1 = words_of (concluded ts c.args.explored) in
    let e1 : t1 ≡ t0 ++ a1 = search rules in
    let e2 : t2 ≡ t1 ++ BEFORE_TOTALS.now = c.in_ok-extend_from_slice-2.ensures.items in
    let e3 : t3 ≡ t2 ++ totals_items ts = c.in_ok-put_totals.ensures in
    let e4 : OnOk r (c.extend_from_slice-3.new.self.items ≡ t3 ++ BEFORE_SOURCE.now) = search rules in
    joined r t0 t1 _ a1 _ e1 (joined r t1 t2 _ BEFORE_TOTALS.now _ e2 (joined r t2 t3 _ (totals_items ts) _ e3 e4))
