use Rattle.std.proofs.Common.{◌≡◌, ◌++◌, rules}
use Rattle.std.specs.Prelude.{OnOk}
use Rattle.og_report_prove.specs.Report.{totals_text}
use Rattle.og_report_prove.proofs.Joins.{joined}
use Rattle.og_report_findings.specs.Report.{explored_part}
use Rattle.og_report_findings.specs.Verdicts.{concluded, verdict_line}
use Rattle.og_report_findings.proofs.reporting.put_end.Goals as goal

pub returns : goal.returns
returns c =
    let f = c.args.findings in
    let r = c.put_verdict.result in
    let t0 = c.args.text.now.items in
    let t1 = c.put_totals.new.text.items in
    let t2 = c.put_followed.new.text.items in
    let a1 = totals_text f.diagnoses.now in
    let a2 = explored_part f.explored f.runs.now in
    let e1 : t1 ≡ t0 ++ a1 = search rules in
    let e2 : t2 ≡ t1 ++ a2 = search rules in
    let e3 : OnOk r (c.put_verdict.new.text.items ≡ t2 ++ verdict_line (concluded f.diagnoses.now f.explored)) = search rules in
    joined r t0 t1 _ a1 _ e1 (joined r t1 t2 _ a2 _ e2 e3)
