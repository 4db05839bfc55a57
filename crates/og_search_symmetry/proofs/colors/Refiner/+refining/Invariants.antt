use Rattle.std.proofs.Common.{◌+◌, ◌*◌}
use Rattle.og_search_symmetry.proofs.colors.Refiner.+refining.Given as goal

abbrev pub decreases-add_fact : goal.decreases-add_fact
decreases-add_fact l = 3 * l.depth

abbrev pub decreases-add_part : goal.decreases-add_part
decreases-add_part l = 3 * l.depth + 1

abbrev pub decreases-add_parts : goal.decreases-add_parts
decreases-add_parts l = 3 * l.depth + 2
