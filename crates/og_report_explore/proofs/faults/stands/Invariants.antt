use Rattle.std.proofs.Common.{◌≡◌, length}
use Rattle.og_report_explore.specs.Findings.{AreStands}
use Rattle.og_report_explore.proofs.faults.stands.Given as goal

abbrev pub invariant-loop-p : goal.invariant-loop-p
invariant-loop-p l = record {
  count : length l.stands.items ≡ l.p;
  stands : AreStands l.moment.moment 0 l.stands.items;
}
