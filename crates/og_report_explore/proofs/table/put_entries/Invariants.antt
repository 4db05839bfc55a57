use Rattle.std.proofs.Common.{◌≡◌, ◌++◌, [], drop}
use Rattle.og_report_explore.specs.Table.{entries_text}
use Rattle.og_report_explore.proofs.table.put_entries.Given as goal

abbrev pub invariant-loop-entry : goal.invariant-loop-entry
invariant-loop-entry l = l.text.items ++ entries_text l.names l.between (drop l.entry-index l.entries) ≡ l.initial.text.items ++ entries_text l.names [] l.entries
