use Rattle.std.proofs.Common.{◌≡◌, ◌++◌, map, take, drop, length}
use Rattle.og_facts.specs.Plain.{plain_fact}
use Rattle.og_cert.specs.Held.{facts_held}
use Rattle.og_cert.proofs.held.hold_all.Given as goal

abbrev pub invariant-loop-fact : goal.invariant-loop-fact
invariant-loop-fact l = record {
  added : facts_held l.held.items ++ map plain_fact (drop l.fact-index l.facts) ≡ facts_held l.fn.held.items ++ map plain_fact l.facts;
  kept : take (length l.fn.held.items) l.held.items ≡ l.fn.held.items;
}
