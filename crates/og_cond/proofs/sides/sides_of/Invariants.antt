use Rattle.std.proofs.Common.{◌≡◌, map, take}
use Rattle.og_typed.specs.Plain.{sequence}
use Rattle.og_cond.specs.Crossing.{side_of}
use Rattle.og_cond.specs.Sides.{side_seen}
use Rattle.og_cond.proofs.sides.sides_of.Given as goal

abbrev pub invariant-loop-process : goal.invariant-loop-process
invariant-loop-process l = map side_seen l.sides.items ≡ map side_of (map sequence (take l.process-index l.processes))
