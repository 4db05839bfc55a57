use Rattle.std.proofs.Common.{◌≡◌, ◌++◌, drop, map}
use Rattle.std.specs.Prelude.{filter_map}
use Rattle.og_report_findings.specs.Causes.{item_of}
use Rattle.og_report_findings.specs.Alike.{other_of}
use Rattle.og_report_findings.proofs.places.others_of.Given as goal

abbrev pub invariant-loop-item : goal.invariant-loop-item
invariant-loop-item l =
    l.others.items ++ filter_map (λ i. other_of l.main i.entry.diagnosis) (map item_of (drop l.item-index l.items)) ≡ filter_map (λ i. other_of l.main i.entry.diagnosis) (map item_of l.items)
