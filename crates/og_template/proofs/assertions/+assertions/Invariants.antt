use Rattle.std.proofs.Common.{◌+◌, ◌*◌, ◌≤◌, length}
use Rattle.og_template.proofs.assertions.+assertions.Given as goal

abbrev pub decreases-opened : goal.decreases-opened
decreases-opened l = 9 * l.depth + 0

abbrev pub decreases-implied : goal.decreases-implied
decreases-implied l = 9 * l.depth + 0

abbrev pub decreases-unit : goal.decreases-unit
decreases-unit l = 9 * l.depth + 1

abbrev pub decreases-conjunction : goal.decreases-conjunction
decreases-conjunction l = 9 * l.depth + 2

abbrev pub decreases-disjunction : goal.decreases-disjunction
decreases-disjunction l = 9 * l.depth + 3

abbrev pub decreases-closed : goal.decreases-closed
decreases-closed l = 9 * l.depth + 4

abbrev pub decreases-assertion : goal.decreases-assertion
decreases-assertion l = 9 * l.depth + 4

abbrev pub decreases-negation : goal.decreases-negation
decreases-negation l = 9 * l.depth + 5

abbrev pub decreases-group : goal.decreases-group
decreases-group l = 9 * l.depth + 5

abbrev pub decreases-quantified : goal.decreases-quantified
decreases-quantified l = 9 * l.depth + 5

abbrev pub invariant-conjunction-more : goal.invariant-conjunction-more
invariant-conjunction-more l = length l.cursor ≤ length l.fn.cursor

abbrev pub decreases-conjunction-more : goal.decreases-conjunction-more
decreases-conjunction-more l = length l.cursor

abbrev pub invariant-disjunction-more : goal.invariant-disjunction-more
invariant-disjunction-more l = length l.cursor ≤ length l.fn.cursor

abbrev pub decreases-disjunction-more : goal.decreases-disjunction-more
decreases-disjunction-more l = length l.cursor
