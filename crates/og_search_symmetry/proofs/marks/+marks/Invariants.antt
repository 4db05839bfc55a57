use Rattle.std.proofs.Common.{◌+◌, ◌*◌}
use Rattle.og_search_symmetry.proofs.marks.+marks.Given as goal

abbrev pub decreases-fact_mark : goal.decreases-fact_mark
decreases-fact_mark l = 3 * l.depth

abbrev pub decreases-part_mark : goal.decreases-part_mark
decreases-part_mark l = 3 * l.depth + 1

abbrev pub decreases-choice_mark : goal.decreases-choice_mark
decreases-choice_mark l = 3 * l.depth + 2
