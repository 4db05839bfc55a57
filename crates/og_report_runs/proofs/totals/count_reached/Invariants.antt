use Rattle.std.proofs.Common.{◌≡◌, ◌+◌, ◌≤◌, drop}
use Rattle.og_report_runs.specs.Report.{count_reached}
use Rattle.og_report_runs.proofs.totals.count_reached.Given as goal

abbrev pub invariant-loop-run : goal.invariant-loop-run
invariant-loop-run l = record {
  value : l.count + count_reached (drop l.run-index l.runs) ≡ count_reached l.runs;
  few : l.count ≤ l.run-index;
}
