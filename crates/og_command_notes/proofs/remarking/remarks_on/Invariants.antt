use Rattle.std.proofs.Common.{◌≡◌, ◌++◌, drop, map}
use Rattle.std.specs.Prelude.{flat_map}
use Rattle.og_command_notes.specs.Remarks.{remark_seen, remarks_of}
use Rattle.og_command_notes.specs.Seen.{claims_of}
use Rattle.og_command_notes.proofs.remarking.remarks_on.Given as goal

abbrev pub invariant-loop-claim : goal.invariant-loop-claim
invariant-loop-claim l = map remark_seen l.remarks.items ++ flat_map remarks_of (claims_of (drop l.claim-index l.claims)) ≡ flat_map remarks_of (claims_of l.claims)
