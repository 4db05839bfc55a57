use Rattle.std.proofs.Common.{◌≡◌, ◌+◌, ◌++◌, drop, map}
use Rattle.serde_json.specs.View.{view}
use Rattle.og_report.specs.Json.{unproved_data}
use Rattle.og_report.proofs.members.unproved_values.Given as goal

abbrev pub invariant-loop-entry : goal.invariant-loop-entry
invariant-loop-entry l = record {
  number : l.number ≡ l.entry-index + 1;
  values : map view l.values.items ++ unproved_data l.places l.number (drop l.entry-index l.entries) ≡ unproved_data l.places 1 l.entries;
}
