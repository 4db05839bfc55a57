use Rattle.std.proofs.Common.{◌≡◌, ◌+◌, drop}
use Rattle.og_typed.specs.declared.statement.Seq.{out-Seq}
use Rattle.og_typed.specs.Plain.{noted, sequence}
use Rattle.og_cond.specs.Sets.{has}
use Rattle.og_cond.specs.Counting.{seq_hits}
use Rattle.og_cond.proofs.Counts.{hits_from}
use Rattle.og_cond.proofs.count.+hits.Given as goal

abbrev pub decreases-room_after_hits : goal.decreases-room_after_hits
decreases-room_after_hits l = goal.size-room_after_hits l

abbrev pub decreases-room_after_stmt_hits : goal.decreases-room_after_stmt_hits
decreases-room_after_stmt_hits l = goal.size-room_after_stmt_hits l

abbrev pub invariant-room_after_hits-loop-item : goal.invariant-room_after_hits-loop-item
invariant-room_after_hits-loop-item l =
    l.left + seq_hits (has l.set) (sequence l.seq) ≡ l.room + hits_from (has l.set) (drop l.item-index l.item-items) (noted (out-Seq l.seq).last)
