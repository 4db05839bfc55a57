use Rattle.std.proofs.Common.{◌≤◌, length}
use Rattle.og_template.proofs.lists.list.Given as goal

abbrev pub invariant-more : goal.invariant-more
invariant-more g l = length l.cursor ≤ length l.fn.cursor

abbrev pub decreases-more : goal.decreases-more
decreases-more g l = length l.cursor
