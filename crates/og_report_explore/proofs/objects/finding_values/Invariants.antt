use Rattle.std.proofs.Common.{◌≡◌, ◌++◌, drop, map}
use Rattle.serde_json.specs.View.{view}
use Rattle.og_report_explore.specs.Json.{finding_data}
use Rattle.og_report_explore.proofs.objects.finding_values.Given as goal

abbrev pub invariant-loop-finding : goal.invariant-loop-finding
invariant-loop-finding l =
    map view l.values.items ++ map (finding_data l.page.names.now l.page.origins.now.source.now l.page.main l.page.cobegin_at) (drop l.finding-index l.findings)
    ≡ map (finding_data l.page.names.now l.page.origins.now.source.now l.page.main l.page.cobegin_at) l.findings
