use Rattle.std.proofs.Common.{◌≡◌, map, ◌+◌, ◌*◌, length}
use Rattle.og_parse.specs.Reading.{many_at}
use Rattle.og_parse.specs.TreeOf.{item_of, note_of}
use Rattle.og_parse.specs.Reads.{a_stmt, step_by, compound_at, seq_at}
use Rattle.og_parse.proofs.Sequences.{with_items}
use Rattle.og_parse.proofs.statements.+statements.Given as goal

abbrev pub decreases-compound : goal.decreases-compound
decreases-compound l = 8 * l.context.depth

abbrev pub decreases-statement : goal.decreases-statement
decreases-statement l = 8 * l.context.depth + 1

abbrev pub decreases-step : goal.decreases-step
decreases-step l = 8 * l.context.depth + 2

abbrev pub decreases-sequence : goal.decreases-sequence
decreases-sequence l = 8 * l.context.depth + 3

abbrev pub decreases-rest_of_block : goal.decreases-rest_of_block
decreases-rest_of_block l = 8 * l.context.depth + 4

abbrev pub decreases-block : goal.decreases-block
decreases-block l = 8 * l.context.depth + 5

abbrev pub decreases-else_part : goal.decreases-else_part
decreases-else_part l = 8 * l.context.depth + 6

abbrev pub decreases-tested : goal.decreases-tested
decreases-tested l = 8 * l.context.depth + 6

abbrev pub decreases-if_stmt : goal.decreases-if_stmt
decreases-if_stmt l = 8 * l.context.depth + 7

abbrev pub invariant-sequence-more : goal.invariant-sequence-more
invariant-sequence-more l = with_items (map item_of l.items.items) (note_of l.last) (many_at a_stmt (step_by l.context.levels l.context.awaits (compound_at l.context.levels l.context.awaits l.context.depth)) l.cursor) ≡ seq_at l.context.levels l.context.awaits l.context.depth l.fn.cursor

abbrev pub decreases-sequence-more : goal.decreases-sequence-more
decreases-sequence-more l = length l.cursor
