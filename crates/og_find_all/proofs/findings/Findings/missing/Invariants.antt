use Rattle.std.proofs.Common.{◌≡◌, ◌≤◌}
use Rattle.og_find.specs.Missing.{missing_up_to}
use Rattle.og_find_all.specs.Texts.{entries_of}
use Rattle.og_find_all.proofs.findings.Findings.missing.Given as goal

abbrev pub invariant-loop-index : goal.invariant-loop-index
invariant-loop-index l = (l.count ≡ missing_up_to (entries_of l.self) l.index) × (l.count ≤ l.index)
