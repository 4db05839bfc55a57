use Rattle.std.proofs.Common.{◌+◌, ◌*◌}
use Rattle.og_search_queues.proofs.refuter.Refuter.+sets.Given as goal

-- each entry takes a level, and within a level refute_one_more and refute_one_through go to refute_sets
abbrev pub decreases-refute_sets : goal.decreases-refute_sets
decreases-refute_sets l = 2 * l.level

abbrev pub decreases-refute_one_more : goal.decreases-refute_one_more
decreases-refute_one_more l = 2 * l.level + 1

abbrev pub decreases-refute_one_through : goal.decreases-refute_one_through
decreases-refute_one_through l = 2 * l.level + 1
