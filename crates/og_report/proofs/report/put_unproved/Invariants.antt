use Rattle.std.proofs.Common.{◌≡◌, ◌+◌, ◌++◌, drop}
use Rattle.og_report.specs.Report.{unproved_lines}
use Rattle.og_report.proofs.report.put_unproved.Given as goal

abbrev pub invariant-loop-entry : goal.invariant-loop-entry
invariant-loop-entry l = record {
  number : l.number ≡ l.entry-index + 1;
  lines : l.text.items ++ unproved_lines l.places l.number (drop l.entry-index l.entries) ≡ l.initial.text.items ++ unproved_lines l.places 1 l.entries;
}
