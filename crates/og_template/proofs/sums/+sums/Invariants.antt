use Rattle.std.proofs.Common.{◌+◌, ◌*◌, ◌≤◌, length}
use Rattle.og_template.proofs.sums.+sums.Given as goal

abbrev pub decreases-total : goal.decreases-total
decreases-total l = 9 * l.depth + 0

abbrev pub decreases-term : goal.decreases-term
decreases-term l = 9 * l.depth + 1

abbrev pub decreases-terms : goal.decreases-terms
decreases-terms l = 9 * l.depth + 2

abbrev pub decreases-summands : goal.decreases-summands
decreases-summands l = 9 * l.depth + 3

abbrev pub invariant-terms-more : goal.invariant-terms-more
invariant-terms-more l = length l.cursor ≤ length l.fn.cursor

abbrev pub decreases-terms-more : goal.decreases-terms-more
decreases-terms-more l = length l.cursor
