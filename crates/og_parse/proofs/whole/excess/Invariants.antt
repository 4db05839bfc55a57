use Rattle.std.proofs.Common.{take}
use Rattle.og_parse.proofs.Counts.{SoFar}
use Rattle.og_parse.proofs.whole.excess.Given as goal

abbrev pub invariant-loop-i : goal.invariant-loop-i
invariant-loop-i l = SoFar l.limit (take l.i l.tokens) l.count l.closed
