use Rattle.std.proofs.Common.{◌≡◌, drop, Some}
use Rattle.og_typed.specs.Machine.{IsStart, run_on, start_of}
use Rattle.og_violation.proofs.replay.moment_after.Given as goal

abbrev pub invariant-loop-p : goal.invariant-loop-p
invariant-loop-p l = record {
  outline : l.moment.outline ≡ l.outline;
  begins : IsStart l.outline l.values;
  leads : run_on (drop l.p-index l.history) (Some l.moment.moment) ≡ run_on l.history (Some (start_of l.outline l.values));
}
