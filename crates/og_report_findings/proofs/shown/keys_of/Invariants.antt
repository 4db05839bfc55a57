use Rattle.std.proofs.Common.{◌≡◌, ◌++◌, drop, map}
use Rattle.og_report_prove.specs.Together.{key_seen}
use Rattle.og_report_findings.specs.Entries.{entry_of}
use Rattle.og_report_findings.specs.Causes.{keys_of}
use Rattle.og_report_findings.proofs.shown.keys_of.Given as goal

abbrev pub invariant-loop-entry : goal.invariant-loop-entry
invariant-loop-entry l =
    map key_seen l.keys.items ++ keys_of l.rows (map entry_of (drop l.entry-index l.entries)) ≡ keys_of l.rows (map entry_of l.entries)
