use Rattle.std.proofs.Common.{◌≡◌, take}
use Rattle.og_command_explore.proofs.answering.ends.Given as goal

abbrev pub invariant-loop-range : goal.invariant-loop-range
invariant-loop-range l = l.ends.items ≡ take l.range-index l.ranges
