use Rattle.std.proofs.Common.{◌≡◌, ◌++◌, drop}
use Rattle.og_report_explore.specs.Texts.{findings_text}
use Rattle.og_report_explore.proofs.texts.put_findings.Given as goal

abbrev pub invariant-loop-index : goal.invariant-loop-index
invariant-loop-index l =
    l.text.items ++ findings_text l.page.names.now l.page.origins.now.source.now l.page.origins.now.rows l.page.main l.cobegin_at (drop l.index l.findings)
    ≡ l.initial.text.items ++ findings_text l.page.names.now l.page.origins.now.source.now l.page.origins.now.rows l.page.main l.cobegin_at l.findings
