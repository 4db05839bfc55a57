use Rattle.std.proofs.Common.{◌≡◌, ◌++◌, drop, map}
use Rattle.serde_json.specs.View.{view}
use Rattle.og_report_explore.specs.Json.{history_items}
use Rattle.og_report_explore.proofs.objects.history_values.Given as goal

abbrev pub invariant-loop-row : goal.invariant-loop-row
invariant-loop-row l = map view l.values.items ++ history_items l.main (drop l.row-index l.rows) ≡ history_items l.main l.rows
