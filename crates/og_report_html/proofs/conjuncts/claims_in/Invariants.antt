use Rattle.std.proofs.Common.{◌≡◌, ◌++◌, drop, map}
use Rattle.og_report_html.specs.Conjuncts.{claim_of, claim_in, claims_in}
use Rattle.og_report_html.proofs.conjuncts.claims_in.Given as goal

abbrev pub invariant-loop-note : goal.invariant-loop-note
invariant-loop-note l = map claim_of l.claims.items ++ map (claim_in l.source) (drop l.note-index l.note-items) ≡ claims_in l.source
