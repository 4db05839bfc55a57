use Rattle.std.proofs.Common.{◌≡◌, ◌+◌, length}
use Rattle.og_cond.specs.Groups.{rest, left}
use Rattle.og_report_conditions.proofs.choosing.count_rest.Given as goal

abbrev pub invariant-loop-group : goal.invariant-loop-group
invariant-loop-group l = l.count + length (rest l.groups) ≡ length (rest l.initial.groups)

abbrev pub decreases-loop-group : goal.decreases-loop-group
decreases-loop-group l = left l.groups
