use Rattle.std.proofs.Common.{◌≡◌, ◌+◌, drop}
use Rattle.og_facts.proofs.Counted.{count_list}
use Rattle.og_facts.proofs.counting.+counting.Given as goal

abbrev pub invariant-room_after_all-loop-a : goal.invariant-room_after_all-loop-a
invariant-room_after_all-loop-a l = l.left + count_list l.is_true l.all ≡ l.room + count_list l.is_true (drop l.a-index l.all)
