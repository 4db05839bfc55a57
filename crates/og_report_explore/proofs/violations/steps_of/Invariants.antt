use Rattle.std.proofs.Common.{◌≡◌, ◌-◌, Some, take}
use Rattle.og_typed.specs.Machine.{Moment, run_on}
use Rattle.og_report_explore.specs.Findings.{AreRows}
use Rattle.og_report_explore.proofs.violations.steps_of.Given as goal

abbrev pub invariant-loop-p : goal.invariant-loop-p
invariant-loop-p l = record {
  outline : l.moment.outline ≡ l.initial.moment.outline;
  rows : AreRows l.outline l.initial.moment.moment (take l.p-index l.history) l.rows.items l.moment.moment;
  before : (k : Moment) × (run_on (take (l.p-index - 1) l.history) (Some l.initial.moment.moment) ≡ Some k) × (l.before ≡ k.state);
}
