use Rattle.std.proofs.Common.{◌+◌, ◌*◌}
use Rattle.og_search_pigeons.proofs.refuter.Refuter.+halving.Given as goal

-- each number that is taken to be in a half takes a level, and within a level refute and refute_in go to halve
abbrev pub decreases-refute : goal.decreases-refute
decreases-refute l = 2 * l.level + 1

abbrev pub decreases-refute_in : goal.decreases-refute_in
decreases-refute_in l = 2 * l.level + 1

abbrev pub decreases-halve : goal.decreases-halve
decreases-halve l = 2 * l.level
