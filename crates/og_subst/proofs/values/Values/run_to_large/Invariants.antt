use Rattle.std.proofs.Common.{◌≡◌, drop, map}
use Rattle.og_typed.specs.Plain.{simple}
use Rattle.og_subst.specs.Large.{first_large}
use Rattle.og_subst.proofs.values.Values.run_to_large.Given as goal

abbrev pub invariant-loop-basic : goal.invariant-loop-basic
invariant-loop-basic l = first_large (map simple (drop l.basic-index l.body)) l.self ≡ first_large (map simple l.body) l.initial.self
