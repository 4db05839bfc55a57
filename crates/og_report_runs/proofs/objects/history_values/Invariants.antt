use Rattle.std.proofs.Common.{◌≡◌, ◌++◌, drop, map}
use Rattle.serde_json.specs.View.{view}
use Rattle.og_report_runs.specs.Json.{history_items}
use Rattle.og_report_runs.proofs.objects.history_values.Given as goal

abbrev pub invariant-loop-p : goal.invariant-loop-p
invariant-loop-p l = map view l.values.items ++ history_items l.main (drop l.p-index l.history) ≡ history_items l.main l.history
