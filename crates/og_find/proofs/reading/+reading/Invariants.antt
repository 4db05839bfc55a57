use Rattle.std.proofs.Common.{◌+◌, ◌*◌}
use Rattle.og_find.proofs.reading.+reading.Given as goal

abbrev pub decreases-read_facts : goal.decreases-read_facts
decreases-read_facts l = 2 * l.depth

abbrev pub decreases-read_parts : goal.decreases-read_parts
decreases-read_parts l = 2 * l.depth + 1
