use Rattle.std.proofs.Common.{◌≡◌, ◌++◌, map, take}
use Rattle.og_typed.specs.Plain.{sequence}
use Rattle.og_cond.specs.Conditions.{start_condition}
use Rattle.og_cond.specs.Seen.{seen}
use Rattle.og_cond.proofs.whole.add_starts.Given as goal

abbrev pub invariant-loop-process : goal.invariant-loop-process
invariant-loop-process l =
    map seen l.conditions.items
    ≡ map seen l.fn.conditions.items ++ map (start_condition l.outline) (map sequence (take l.process-index l.process-items))
