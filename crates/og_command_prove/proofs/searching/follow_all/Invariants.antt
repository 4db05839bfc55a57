use Rattle.std.proofs.Common.{map}
use Rattle.og_cond.specs.Seen.{seen}
use Rattle.og_command_prove.specs.Moments.{lists_of}
use Rattle.og_command_prove.proofs.Columns.{AreFollowed}
use Rattle.og_command_prove.proofs.searching.follow_all.Given as goal

abbrev pub invariant-loop-index : goal.invariant-loop-index
invariant-loop-index l = AreFollowed l.fn.diagnoser.outline.now (lists_of l.fn.moments) (map seen l.conditions) l.index l.diagnoses l.runs
