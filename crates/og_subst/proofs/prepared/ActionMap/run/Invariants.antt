use Rattle.std.proofs.Common.{◌≡◌, map, drop}
use Rattle.og_typed.specs.Plain.{simple}
use Rattle.og_subst.specs.Running.{run}
use Rattle.og_subst.proofs.prepared.ActionMap.run.Given as goal

abbrev pub invariant-loop-basic : goal.invariant-loop-basic
invariant-loop-basic l = run (map simple (drop l.basic-index l.body)) l.self ≡ run (map simple l.body) l.initial.self
