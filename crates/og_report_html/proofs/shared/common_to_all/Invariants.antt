use Rattle.std.proofs.Common.{◌≡◌, ◌≤◌, drop, length, map}
use Rattle.og_report_html.specs.Conjuncts.{claim_of}
use Rattle.og_report_html.specs.Shared.{common_to_all}
use Rattle.og_report_html.proofs.shared.common_to_all.Given as goal

abbrev pub invariant-loop-claim : goal.invariant-loop-claim
invariant-loop-claim l = record {
  all : common_to_all l.source l.count l.first (map claim_of (drop l.claim-index l.claims)) ≡ common_to_all l.source (length l.first) l.first (map claim_of l.claims);
  within : l.count ≤ length l.first;
}
