use Rattle.std.proofs.Common.{◌≡◌, ◌+◌, ◌++◌, drop}
use Rattle.og_report_html.specs.Table.{disturbances_from}
use Rattle.og_report_html.proofs.table.disturbances_of.Given as goal

abbrev pub invariant-loop-index : goal.invariant-loop-index
invariant-loop-index l = l.found.items ++ disturbances_from l.finding (l.index + 1) (drop l.index l.diagnoses) (drop l.index l.targets) ≡ disturbances_from l.finding 1 l.diagnoses l.targets
