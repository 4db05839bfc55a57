use Rattle.std.proofs.Common.{◌≡◌, ◌++◌, drop, codes}
use Rattle.og_report_findings.specs.Alike.{places_from}
use Rattle.og_report_findings.proofs.places.put_each.Given as goal

abbrev pub invariant-loop-at : goal.invariant-loop-at
invariant-loop-at l =
    l.text.items ++ places_from l.origins.source.now l.origins.rows l.between (drop l.at-index l.places) ≡ l.initial.text.items ++ places_from l.origins.source.now l.origins.rows (codes ": ") l.places
