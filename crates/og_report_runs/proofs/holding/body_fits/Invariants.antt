use Rattle.std.proofs.Common.{◌≡◌, drop, map}
use Rattle.og_typed.specs.Plain.{simple}
use Rattle.og_typed.specs.Machine.{all_fit}
use Rattle.og_report_runs.proofs.holding.body_fits.Given as goal

abbrev pub invariant-loop-basic : goal.invariant-loop-basic
invariant-loop-basic l = all_fit (map simple (drop l.basic-index l.body)) l.values ≡ all_fit (map simple l.body) l.fn.values
