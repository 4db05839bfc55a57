use Rattle.std.proofs.Common.{◌+◌, ◌*◌, ◌≤◌, length}
use Rattle.og_template.proofs.statements.+statements.Given as goal

abbrev pub decreases-compound : goal.decreases-compound
decreases-compound l = 9 * l.limits.levels + 0

abbrev pub decreases-repeated : goal.decreases-repeated
decreases-repeated l = 9 * l.limits.levels + 0

abbrev pub decreases-statement : goal.decreases-statement
decreases-statement l = 9 * l.limits.levels + 1

abbrev pub decreases-step : goal.decreases-step
decreases-step l = 9 * l.limits.levels + 2

abbrev pub decreases-steps : goal.decreases-steps
decreases-steps l = 9 * l.limits.levels + 3

abbrev pub decreases-sequence : goal.decreases-sequence
decreases-sequence l = 9 * l.limits.levels + 4

abbrev pub decreases-rest_of_block : goal.decreases-rest_of_block
decreases-rest_of_block l = 9 * l.limits.levels + 5

abbrev pub decreases-block : goal.decreases-block
decreases-block l = 9 * l.limits.levels + 6

abbrev pub decreases-tested : goal.decreases-tested
decreases-tested l = 9 * l.limits.levels + 7

abbrev pub decreases-if_statement : goal.decreases-if_statement
decreases-if_statement l = 9 * l.limits.levels + 8

abbrev pub decreases-while_statement : goal.decreases-while_statement
decreases-while_statement l = 9 * l.limits.levels + 8

abbrev pub invariant-steps-more : goal.invariant-steps-more
invariant-steps-more l = length l.cursor ≤ length l.fn.cursor

abbrev pub decreases-steps-more : goal.decreases-steps-more
decreases-steps-more l = length l.cursor
