use Rattle.std.proofs.Common.{◌≡◌, ◌+◌, drop, map}
use Rattle.og_typed.specs.Plain.{sequence}
use Rattle.og_cond.specs.Sets.{has}
use Rattle.og_cond.specs.Counting.{all_hits}
use Rattle.og_cond.proofs.count.room_after_all_hits.Given as goal

abbrev pub invariant-loop-process : goal.invariant-loop-process
invariant-loop-process l =
    l.left + all_hits (has l.set) (map sequence l.processes) ≡ l.room + all_hits (has l.set) (map sequence (drop l.process-index l.processes))
