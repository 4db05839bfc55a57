use Rattle.std.proofs.Common.{◌≡◌, ◌+◌, ◌*◌, ◌++◌, map, drop}
use Rattle.og_typed.specs.declared.statement.Seq.{out-Seq}
use Rattle.og_typed.specs.Plain.{noted, sequence}
use Rattle.og_cond.specs.Conditions.{seq_conditions}
use Rattle.og_cond.specs.Seen.{seen}
use Rattle.og_cond.proofs.LocalItems.{item_conditions}
use Rattle.og_cond.proofs.local.+local.Given as goal

abbrev pub decreases-add_seq : goal.decreases-add_seq
decreases-add_seq l = 2 * goal.size-add_seq l

abbrev pub decreases-add_stmt : goal.decreases-add_stmt
decreases-add_stmt l = 2 * goal.size-add_stmt l

-- a block is entered with the measure of its sequence, and one more
abbrev pub decreases-add_block : goal.decreases-add_block
decreases-add_block l = 2 * goal.size-add_block l + 1

abbrev pub invariant-add_seq-loop-index : goal.invariant-add_seq-loop-index
invariant-add_seq-loop-index l =
    map seen l.conditions.items ++ item_conditions l.variables (drop l.index (out-Seq l.seq).items.items) (noted (out-Seq l.seq).last)
    ≡ map seen l.fn.conditions.items ++ seq_conditions l.variables (sequence l.seq)
