use Rattle.std.proofs.Common.{◌≡◌, ◌+◌, ◌++◌, drop, map}
use Rattle.og_cond.specs.Seen.{seen}
use Rattle.og_report_text.specs.Listing.{conditions_lines}
use Rattle.og_report_text.proofs.conditions.put_conditions.Given as goal

abbrev pub invariant-loop-condition : goal.invariant-loop-condition
invariant-loop-condition l = record {
  number : l.number ≡ l.condition-index + 1;
  lines : l.text.items ++ conditions_lines l.names l.places l.number (map seen (drop l.condition-index l.conditions)) ≡ l.initial.text.items ++ conditions_lines l.names l.places 1 (map seen l.conditions);
}
