use Rattle.std.proofs.Common.{◌≡◌, ◌+◌, drop, map}
use Rattle.og_typed.specs.Plain.{sequence}
use Rattle.og_cond.specs.Counting.{local_count}
use Rattle.og_cond.proofs.count.room_after_local.Given as goal

abbrev pub invariant-loop-process : goal.invariant-loop-process
invariant-loop-process l =
    l.left + local_count (map sequence l.processes) ≡ l.room + local_count (map sequence (drop l.process-index l.processes))
