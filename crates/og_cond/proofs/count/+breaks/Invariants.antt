use Rattle.std.proofs.Common.{◌≡◌, ◌+◌, ◌++◌, drop, map}
use Rattle.og_typed.specs.declared.statement.Seq.{out-Seq}
use Rattle.og_typed.specs.Plain.{noted, sequence}
use Rattle.og_cond.specs.Counting.{seq_breaks}
use Rattle.og_cond.proofs.Counts.{breaks_from}
use Rattle.og_cond.proofs.count.+breaks.Given as goal

abbrev pub decreases-room_after_seq_breaks : goal.decreases-room_after_seq_breaks
decreases-room_after_seq_breaks l = goal.size-room_after_seq_breaks l

abbrev pub decreases-room_after_stmt_breaks : goal.decreases-room_after_stmt_breaks
decreases-room_after_stmt_breaks l = goal.size-room_after_stmt_breaks l

abbrev pub invariant-room_after_seq_breaks-loop-item : goal.invariant-room_after_seq_breaks-loop-item
invariant-room_after_seq_breaks-loop-item l =
    let others = map sequence l.earlier ++ map sequence l.later in
    l.left + seq_breaks others (sequence l.seq) ≡ l.room + breaks_from others (drop l.item-index l.item-items) (noted (out-Seq l.seq).last)
