use Rattle.std.proofs.Common.{◌+◌, ◌*◌}
use Rattle.og_search_pigeons.proofs.refuter.Refuter.+ordering.Given as goal

-- each number that is compared takes a level, and within a level put goes to grow and that to insert
abbrev pub decreases-put : goal.decreases-put
decreases-put l = 3 * l.level + 2

abbrev pub decreases-grow : goal.decreases-grow
decreases-grow l = 3 * l.level + 1

abbrev pub decreases-insert : goal.decreases-insert
decreases-insert l = 3 * l.level
