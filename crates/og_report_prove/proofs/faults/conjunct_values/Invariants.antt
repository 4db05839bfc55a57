use Rattle.std.proofs.Common.{◌≡◌, ◌++◌, drop, map}
use Rattle.serde_json.specs.View.{view}
use Rattle.og_typed.specs.Plain.{formula}
use Rattle.og_report_prove.specs.Json.{conjunct_data}
use Rattle.og_report_prove.proofs.faults.conjunct_values.Given as goal

abbrev pub invariant-loop-assert : goal.invariant-loop-assert
invariant-loop-assert l =
    map view l.values.items ++ map (λ a. conjunct_data l.names (formula a.now)) (drop l.assert-index l.found) ≡ map (λ a. conjunct_data l.names (formula a.now)) l.found
