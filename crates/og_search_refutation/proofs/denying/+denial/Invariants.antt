use Rattle.std.proofs.Common.{◌+◌, ◌*◌}
use Rattle.og_search_refutation.proofs.denying.+denial.Given as goal

abbrev pub decreases-denied : goal.decreases-denied
decreases-denied l = 2 * l.below + 1

abbrev pub decreases-split : goal.decreases-split
decreases-split l = 2 * l.below
