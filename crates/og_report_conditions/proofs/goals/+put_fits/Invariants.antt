use Rattle.std.proofs.Common.{length}
use Rattle.og_report_conditions.proofs.goals.+put_fits.Given as goal

abbrev pub decreases-put_fits : goal.decreases-put_fits
decreases-put_fits l = length l.body.now
