use Rattle.std.proofs.Common.{◌≡◌, ◌+◌, [], take, drop, map}
use Rattle.og_typed.specs.Plain.{sequence}
use Rattle.og_cond.specs.Counting.{all_breaks}
use Rattle.og_cond.proofs.count.room_after_interference.Given as goal

abbrev pub invariant-loop-index : goal.invariant-loop-index
invariant-loop-index l =
    l.left + all_breaks [] (map sequence l.processes)
    ≡ l.room + all_breaks (map sequence (take l.index l.processes)) (map sequence (drop l.index l.processes))
