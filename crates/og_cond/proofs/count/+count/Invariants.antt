use Rattle.std.proofs.Common.{◌≡◌, ◌+◌, drop}
use Rattle.og_typed.specs.declared.statement.Seq.{out-Seq}
use Rattle.og_typed.specs.Plain.{noted, sequence}
use Rattle.og_cond.specs.Counting.{seq_count}
use Rattle.og_cond.proofs.Counts.{count_from}
use Rattle.og_cond.proofs.count.+count.Given as goal

abbrev pub decreases-room_after_seq : goal.decreases-room_after_seq
decreases-room_after_seq l = goal.size-room_after_seq l

abbrev pub decreases-room_after_stmt : goal.decreases-room_after_stmt
decreases-room_after_stmt l = goal.size-room_after_stmt l

abbrev pub invariant-room_after_seq-loop-item : goal.invariant-room_after_seq-loop-item
invariant-room_after_seq-loop-item l =
    l.left + seq_count (sequence l.seq) ≡ l.room + count_from (drop l.item-index l.item-items) (noted (out-Seq l.seq).last)
