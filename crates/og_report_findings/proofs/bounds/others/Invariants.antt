use Rattle.std.proofs.Common.{◌≡◌}
use Rattle.og_report_findings.specs.Bounds.{others}
use Rattle.og_report_findings.proofs.bounds.others.Given as goal

abbrev pub invariant-loop-other : goal.invariant-loop-other
invariant-loop-other l = l.list.items ≡ others l.other l.var
