use Rattle.std.proofs.Common.{◌≡◌, ◌+◌, ◌-◌, drop, length}
use Rattle.og_report_html.specs.Shared.{common}
use Rattle.og_report_html.proofs.shared.common.Given as goal

abbrev pub invariant-loop-count : goal.invariant-loop-count
invariant-loop-count l = l.count + common l.source (drop l.count l.first) (drop l.count l.second) ≡ common l.source l.first l.second

abbrev pub decreases-loop-count : goal.decreases-loop-count
decreases-loop-count l = length l.first - l.count
