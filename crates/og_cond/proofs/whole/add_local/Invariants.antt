use Rattle.std.proofs.Common.{◌≡◌, ◌++◌, map, drop}
use Rattle.std.specs.Prelude.{flat_map}
use Rattle.og_typed.specs.Plain.{sequence}
use Rattle.og_cond.specs.Conditions.{seq_conditions}
use Rattle.og_cond.specs.Seen.{seen}
use Rattle.og_cond.proofs.whole.add_local.Given as goal

abbrev pub invariant-loop-process : goal.invariant-loop-process
invariant-loop-process l =
    map seen l.conditions.items ++ flat_map (seq_conditions l.variables) (map sequence (drop l.process-index l.processes))
    ≡ map seen l.fn.conditions.items ++ flat_map (seq_conditions l.variables) (map sequence l.processes)
