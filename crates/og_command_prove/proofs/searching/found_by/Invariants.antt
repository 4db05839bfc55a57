use Rattle.std.proofs.Common.{None, map}
use Rattle.og_cond.specs.Seen.{seen}
use Rattle.og_command_prove.proofs.Columns.{AreFoundTo}
use Rattle.og_command_prove.proofs.searching.found_by.Given as goal

abbrev pub invariant-loop-index : goal.invariant-loop-index
invariant-loop-index l = AreFoundTo l.fn.diagnoser.outline.now None (map seen l.fn.conditions.items) l.index l.diagnoses.items l.runs.items
