use Rattle.std.proofs.Common.{◌≡◌, ◌++◌, map, drop}
use Rattle.std.specs.Prelude.{flat_map}
use Rattle.og_typed.specs.Plain.{sequence}
use Rattle.og_cond.specs.Conditions.{blocked}
use Rattle.og_cond.specs.Seen.{parts_of}
use Rattle.og_cond.proofs.blocking.all_blocked.Given as goal

abbrev pub invariant-loop-process : goal.invariant-loop-process
invariant-loop-process l =
    map parts_of l.parts.items ++ flat_map blocked (map sequence (drop l.process-index l.processes))
    ≡ flat_map blocked (map sequence l.processes)
