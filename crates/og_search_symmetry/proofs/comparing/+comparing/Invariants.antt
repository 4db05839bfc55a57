use Rattle.std.proofs.Common.{◌+◌, ◌*◌}
use Rattle.og_search_symmetry.proofs.comparing.+comparing.Given as goal

abbrev pub decreases-compare : goal.decreases-compare
decreases-compare l = 3 * l.depth

abbrev pub decreases-compare_facts : goal.decreases-compare_facts
decreases-compare_facts l = 3 * l.depth + 1

abbrev pub decreases-compare_parts : goal.decreases-compare_parts
decreases-compare_parts l = 3 * l.depth + 2
