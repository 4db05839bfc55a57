use Rattle.std.proofs.Common.{◌≡◌, ◌++◌, drop, map}
use Rattle.og_facts.specs.Answer.{shown}
use Rattle.og_facts.specs.Facts.{facts_of_list, parts_of_list}
use Rattle.og_facts.specs.Plain.{plain_fact}
use Rattle.og_report_text.specs.Listing.{later_facts_text, parts_text, fact_text}
use Rattle.og_report_text.proofs.facts.+facts.Given as goal

abbrev pub invariant-put_part-loop-fact : goal.invariant-put_part-loop-fact
invariant-put_part-loop-fact l = l.text.items ++ later_facts_text l.names (facts_of_list (map plain_fact (drop l.fact-index l.later))) ≡ l.initial.text.items ++ later_facts_text l.names (facts_of_list (map plain_fact l.later))

abbrev pub invariant-put_fact-loop-part : goal.invariant-put_fact-loop-part
invariant-put_fact-loop-part l = l.text.items ++ parts_text l.names l.between (parts_of_list (map shown (drop l.part-index l.part-items))) ≡ l.initial.text.items ++ fact_text l.names (plain_fact l.fact)
