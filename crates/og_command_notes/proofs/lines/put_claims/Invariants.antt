use Rattle.std.proofs.Common.{◌≡◌, ◌++◌, drop}
use Rattle.std.specs.Prelude.{flat_map}
use Rattle.og_command_notes.specs.Notes.{claim_line}
use Rattle.og_command_notes.specs.Seen.{claims_of}
use Rattle.og_command_notes.proofs.lines.put_claims.Given as goal

abbrev pub invariant-loop-claim : goal.invariant-loop-claim
invariant-loop-claim l = l.text.items ++ flat_map (claim_line l.origins.source.now l.origins.rows) (claims_of (drop l.claim-index l.claims)) ≡ l.initial.text.items ++ flat_map (claim_line l.origins.source.now l.origins.rows) (claims_of l.claims)
