use Rattle.std.proofs.Common.{◌+◌, ◌*◌, ◌≤◌, length}
use Rattle.og_template.proofs.exprs.+expressions.Given as goal

abbrev pub decreases-group : goal.decreases-group
decreases-group l = 9 * l.depth + 0

abbrev pub decreases-operand : goal.decreases-operand
decreases-operand l = 9 * l.depth + 1

abbrev pub decreases-factors : goal.decreases-factors
decreases-factors l = 9 * l.depth + 2

abbrev pub decreases-product : goal.decreases-product
decreases-product l = 9 * l.depth + 3

abbrev pub decreases-signed : goal.decreases-signed
decreases-signed l = 9 * l.depth + 4

abbrev pub decreases-terms : goal.decreases-terms
decreases-terms l = 9 * l.depth + 4

abbrev pub decreases-expr : goal.decreases-expr
decreases-expr l = 9 * l.depth + 5

abbrev pub invariant-factors-more : goal.invariant-factors-more
invariant-factors-more l = length l.cursor ≤ length l.fn.cursor

abbrev pub decreases-factors-more : goal.decreases-factors-more
decreases-factors-more l = length l.cursor

abbrev pub invariant-terms-more : goal.invariant-terms-more
invariant-terms-more l = length l.cursor ≤ length l.fn.cursor

abbrev pub decreases-terms-more : goal.decreases-terms-more
decreases-terms-more l = length l.cursor
