use Rattle.std.proofs.Common.{◌≡◌, drop, map}
use Rattle.og_typed.specs.Plain.{simple}
use Rattle.og_typed.specs.Machine.{act}
use Rattle.og_subst.proofs.values.Values.run.Given as goal

abbrev pub invariant-loop-basic : goal.invariant-loop-basic
invariant-loop-basic l = act (map simple (drop l.basic-index l.body)) l.self ≡ act (map simple l.body) l.initial.self
