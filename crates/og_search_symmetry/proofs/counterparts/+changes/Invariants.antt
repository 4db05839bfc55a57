use Rattle.std.proofs.Common.{◌+◌, ◌*◌}
use Rattle.og_search_symmetry.proofs.counterparts.+changes.Given as goal

abbrev pub decreases-changes_fact : goal.decreases-changes_fact
decreases-changes_fact l = 3 * l.depth

abbrev pub decreases-changes_part : goal.decreases-changes_part
decreases-changes_part l = 3 * l.depth + 1

abbrev pub decreases-changes_choice : goal.decreases-changes_choice
decreases-changes_choice l = 3 * l.depth + 2
