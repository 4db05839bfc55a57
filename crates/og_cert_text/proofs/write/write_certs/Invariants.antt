use Rattle.std.proofs.Common.{◌≡◌, ◌++◌, length}
use Rattle.og_cert_text.specs.Rising.{above}
use Rattle.og_cert_text.specs.Shown.{shown}
use Rattle.og_cert_text.specs.Listing.{file_text}
use Rattle.og_cert_text.proofs.Writing.{entries_text}
use Rattle.og_cert_text.proofs.write.write_certs.Given as goal

abbrev pub invariant-loop-n : goal.invariant-loop-n
invariant-loop-n l = l.text.items ++ entries_text (above l.last (shown l.file)) ≡ file_text (shown l.file)

abbrev pub decreases-loop-n : goal.decreases-loop-n
decreases-loop-n l = length (above l.last (shown l.file))
