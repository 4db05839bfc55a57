use Rattle.std.proofs.Common.{◌≡◌, [], drop, map}
use Rattle.og_report_findings.specs.Causes.{item_of, groups_of, groups_from, AreKnown}
use Rattle.og_report_findings.proofs.causes.groups.Given as goal

abbrev pub invariant-loop-item : goal.invariant-loop-item
invariant-loop-item l = record {
  whole : groups_from l.page.names.now l.page.origins.now.source.now l.page.origins.now.rows (groups_of l.groups.items) (map item_of (drop l.item-index l.items)) ≡ groups_from l.page.names.now l.page.origins.now.source.now l.page.origins.now.rows [] (map item_of l.items);
  known : AreKnown l.page.names.now l.page.origins.now.source.now l.page.origins.now.rows l.firsts (groups_of l.groups.items);
}
