use Rattle.std.proofs.Common.{◌≡◌, length}
use Rattle.og_report_text.specs.Uses.{is_closed}
use Rattle.og_report_text.proofs.uses.is_closed.Given as goal

abbrev pub invariant-loop-rest : goal.invariant-loop-rest
invariant-loop-rest l = is_closed l.rest ≡ is_closed l.bytes

abbrev pub decreases-loop-rest : goal.decreases-loop-rest
decreases-loop-rest l = length l.rest
