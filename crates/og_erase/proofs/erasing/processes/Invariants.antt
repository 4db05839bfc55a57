use Rattle.std.proofs.Common.{◌≡◌, map, take}
use Rattle.og_typed.specs.Erase.{erase_seq}
use Rattle.og_typed.specs.Plain.{sequence}
use Rattle.og_erase.proofs.erasing.processes.Given as goal

abbrev pub invariant-loop-process : goal.invariant-loop-process
invariant-loop-process l = map sequence l.processes.items ≡ map (erase_seq l.vars) (map sequence (take l.process-index l.all))
