use Rattle.std.proofs.Common.{◌+◌, ◌*◌}
use Rattle.og_search.proofs.search.Search.+search.Given as goal

-- each call goes down by one level in the end, and within a level from refute_part by at_level to refute
abbrev pub decreases-at_level : goal.decreases-at_level
decreases-at_level l = 5 * l.level + 1

abbrev pub decreases-refute : goal.decreases-refute
decreases-refute l = 5 * l.level

abbrev pub decreases-refute_part : goal.decreases-refute_part
decreases-refute_part l = 5 * l.level + 2

abbrev pub decreases-split_at : goal.decreases-split_at
decreases-split_at l = 5 * l.below + 4

abbrev pub decreases-split : goal.decreases-split
decreases-split l = 5 * l.below + 3

abbrev pub decreases-branch : goal.decreases-branch
decreases-branch l = 5 * l.below + 2
