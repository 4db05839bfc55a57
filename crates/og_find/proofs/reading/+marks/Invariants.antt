use Rattle.std.proofs.Common.{◌+◌, ◌*◌}
use Rattle.og_find.proofs.reading.+marks.Given as goal

abbrev pub decreases-mark_with_fact : goal.decreases-mark_with_fact
decreases-mark_with_fact l = 3 * l.depth

abbrev pub decreases-mark_with_part : goal.decreases-mark_with_part
decreases-mark_with_part l = 3 * l.depth + 1

abbrev pub decreases-mark_with_parts : goal.decreases-mark_with_parts
decreases-mark_with_parts l = 3 * l.depth + 2
