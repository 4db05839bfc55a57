use Rattle.std.proofs.Common.{◌≡◌, ◌+◌, ◌++◌, drop, map}
use Rattle.og_facts.specs.Plain.{plain_fact}
use Rattle.og_report_text.specs.Listing.{facts_lines}
use Rattle.og_report_text.proofs.conditions.put_facts.Given as goal

abbrev pub invariant-loop-fact : goal.invariant-loop-fact
invariant-loop-fact l = record {
  number : l.number ≡ l.fact-index + 1;
  lines : l.text.items ++ facts_lines l.names l.number (map plain_fact (drop l.fact-index l.facts)) ≡ l.initial.text.items ++ facts_lines l.names 1 (map plain_fact l.facts);
}
