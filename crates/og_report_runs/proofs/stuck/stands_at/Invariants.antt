use Rattle.std.proofs.Common.{◌≡◌, length}
use Rattle.og_report_runs.specs.RunDiagnosis.{AreStandsFrom}
use Rattle.og_report_runs.proofs.stuck.stands_at.Given as goal

abbrev pub invariant-loop-p : goal.invariant-loop-p
invariant-loop-p l = record {
  count : length l.stands.items ≡ l.p;
  stands : AreStandsFrom l.outline l.moment.moment 0 l.stands.items;
}
