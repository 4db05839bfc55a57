use Rattle.std.proofs.Common.{take}
use Rattle.og_completion.specs.Completes.{OneByOne}
use Rattle.og_completion.proofs.Trees.{ProcessCompletes}
use Rattle.og_completion.proofs.checking.completes_processes.Given as goal

abbrev pub invariant-loop-i : goal.invariant-loop-i
invariant-loop-i l = OneByOne (ProcessCompletes l.count) (take l.i l.new) (take l.i l.old)
