use Rattle.std.proofs.Common.{take}
use Rattle.og_completion.specs.Completes.{OneByOne}
use Rattle.og_completion.proofs.Trees.{ItemCompletes}
use Rattle.og_completion.proofs.statements.+statements.Given as goal

abbrev pub invariant-completes_sequence-loop-i : goal.invariant-completes_sequence-loop-i
invariant-completes_sequence-loop-i l = OneByOne (ItemCompletes l.count) (take l.i l.items) (take l.i l.old_items)
