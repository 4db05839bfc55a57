use Rattle.std.proofs.Common.{◌≡◌, map, take}
use Rattle.og_command_explore.proofs.starting.points.Given as goal

abbrev pub invariant-loop-value : goal.invariant-loop-value
invariant-loop-value l = l.ranges.items ≡ map (λ x. (x, x)) (take l.value-index l.values)
