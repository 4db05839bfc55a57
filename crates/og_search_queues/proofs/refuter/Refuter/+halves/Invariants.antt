use Rattle.std.proofs.Common.{◌+◌, ◌*◌}
use Rattle.og_search_queues.proofs.refuter.Refuter.+halves.Given as goal

-- each entry takes a level, and within a level refute_waits_high and refute_not_high go to refute_halves
abbrev pub decreases-refute_halves : goal.decreases-refute_halves
decreases-refute_halves l = 2 * l.level

abbrev pub decreases-refute_high : goal.decreases-refute_high
decreases-refute_high l = 2 * l.level + 1

abbrev pub decreases-refute_waits_high : goal.decreases-refute_waits_high
decreases-refute_waits_high l = 2 * l.level + 1

abbrev pub decreases-refute_not_high : goal.decreases-refute_not_high
decreases-refute_not_high l = 2 * l.level + 1
