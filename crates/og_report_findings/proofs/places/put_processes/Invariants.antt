use Rattle.std.proofs.Common.{◌≡◌, ◌++◌}
use Rattle.og_report_findings.proofs.Lines.{lines_from}
use Rattle.og_report_findings.proofs.places.put_processes.Given as goal

abbrev pub invariant-loop-number : goal.invariant-loop-number
invariant-loop-number l =
    l.text.items ++ lines_from l.origins.source.now l.origins.rows l.main l.others l.number ≡ l.initial.text.items ++ lines_from l.origins.source.now l.origins.rows l.main l.others 0
