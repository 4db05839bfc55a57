use Rattle.std.proofs.Common.{◌≡◌, ◌+◌, ◌++◌, drop, map}
use Rattle.og_cond.specs.Seen.{seen}
use Rattle.og_report_findings.specs.Entries.{entry_of, unproved_from}
use Rattle.og_report_findings.proofs.entry.unproved_of.Given as goal

abbrev pub invariant-loop-index : goal.invariant-loop-index
invariant-loop-index l =
    map entry_of l.entries.items ++ unproved_from (l.index + 1) (map seen (drop l.index l.conditions)) (drop l.index l.diagnoses) (drop l.index l.runs) ≡ unproved_from 1 (map seen l.conditions) l.diagnoses l.runs
