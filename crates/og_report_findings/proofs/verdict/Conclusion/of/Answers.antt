use Rattle.std.proofs.Common.{◌≡◌, rules, sym, subst}
use Rattle.og_report_findings.specs.Exact.{IsExact}
use Rattle.og_report_findings.specs.Verdicts.{concluded}
use Rattle.og_report_findings.proofs.Exact.{exact}
use Rattle.og_report_findings.proofs.verdict.Conclusion.of.Goals as goal

pub returns-in-false-default-clause-exact : goal.returns-in-false-default-clause-exact
returns-in-false-default-clause-exact c =
    let ts = c.args.diagnoses.now in
    let e = c.args.explored in
    let is : c.by_runs.result ≡ concluded ts e = search rules in
    subst (IsExact ts e) (sym is) (exact ts e)
