use Rattle.std.proofs.Common.{◌≡◌, ◌++◌, drop, filter}
use Rattle.og_report_findings.specs.Order.{is_reached}
use Rattle.og_report_findings.proofs.order.reached.Given as goal

abbrev pub invariant-loop-index : goal.invariant-loop-index
invariant-loop-index l = l.chosen.items ++ filter (λ e. is_reached e.run.now) (drop l.index l.entries) ≡ filter (λ e. is_reached e.run.now) l.entries
