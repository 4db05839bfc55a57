use Rattle.std.proofs.Common.{length}
use Rattle.og_report_conditions.proofs.goals.+put_after.Given as goal

abbrev pub decreases-put_after : goal.decreases-put_after
decreases-put_after l = length l.body.now
