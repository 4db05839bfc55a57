use Rattle.std.proofs.Common.{◌≡◌, ◌++◌, drop, map}
use Rattle.og_report_findings.specs.Entries.{entry_of}
use Rattle.og_report_findings.specs.Causes.{item_of, with_more}
use Rattle.og_report_findings.proofs.shown.with_more.Given as goal

abbrev pub invariant-loop-index : goal.invariant-loop-index
invariant-loop-index l =
    map item_of l.items.items ++ with_more (map entry_of (drop l.index l.entries)) (drop l.index l.repeats) ≡ with_more (map entry_of l.entries) l.repeats
