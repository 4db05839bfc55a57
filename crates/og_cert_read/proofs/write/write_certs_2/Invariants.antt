use Rattle.std.proofs.Common.{length}
use Rattle.og_cert_text.specs.Rising.{above}
use Rattle.og_cert_text.specs.Shown.{shown}
use Rattle.og_cert_read.proofs.SharedSoFar.{IsSoFar}
use Rattle.og_cert_read.proofs.write.write_certs_2.Given as goal

abbrev pub invariant-loop-n : goal.invariant-loop-n
invariant-loop-n l = IsSoFar l.text.items l.firsts l.last (shown l.file)

abbrev pub decreases-loop-n : goal.decreases-loop-n
decreases-loop-n l = length (above l.last (shown l.file))
