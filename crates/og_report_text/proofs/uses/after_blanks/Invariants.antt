use Rattle.std.proofs.Common.{◌≡◌, length}
use Rattle.og_report_text.specs.Uses.{after_blanks}
use Rattle.og_report_text.proofs.uses.after_blanks.Given as goal

abbrev pub invariant-loop-rest : goal.invariant-loop-rest
invariant-loop-rest l = after_blanks l.rest ≡ after_blanks l.bytes

abbrev pub decreases-loop-rest : goal.decreases-loop-rest
decreases-loop-rest l = length l.rest
