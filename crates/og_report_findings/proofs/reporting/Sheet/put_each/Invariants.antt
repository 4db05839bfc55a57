use Rattle.std.proofs.Common.{◌≡◌, ◌++◌, drop}
use Rattle.og_report_findings.specs.Causes.{groups_of}
use Rattle.og_report_findings.specs.Report.{each_text}
use Rattle.og_report_findings.proofs.reporting.Sheet.put_each.Given as goal

abbrev pub invariant-loop-group : goal.invariant-loop-group
invariant-loop-group l =
    l.text.items ++ each_text l.self.hints.now l.self.explored l.self.advice.now l.self.page.origins.now.source.now l.self.page.origins.now.rows (groups_of (drop l.group-index l.groups))
    ≡ l.initial.text.items ++ each_text l.self.hints.now l.self.explored l.self.advice.now l.self.page.origins.now.source.now l.self.page.origins.now.rows (groups_of l.groups)
