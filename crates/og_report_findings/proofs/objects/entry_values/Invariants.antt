use Rattle.std.proofs.Common.{◌≡◌, ◌++◌, drop, map}
use Rattle.serde_json.specs.View.{view}
use Rattle.og_report_findings.specs.Entries.{entry_of}
use Rattle.og_report_findings.specs.Json.{entry_data}
use Rattle.og_report_findings.proofs.objects.entry_values.Given as goal

abbrev pub invariant-loop-entry : goal.invariant-loop-entry
invariant-loop-entry l =
    map view l.values.items ++ map (entry_data l.outline l.origins.source.now l.explored) (map entry_of (drop l.entry-index l.entries)) ≡ map (entry_data l.outline l.origins.source.now l.explored) (map entry_of l.entries)
