use Rattle.std.proofs.Common.{◌≡◌, map, take}
use Rattle.og_typed.specs.Plain.{simple}
use Rattle.og_subst.proofs.equality.same_bodies.Given as goal

abbrev pub invariant-loop-i : goal.invariant-loop-i
invariant-loop-i l = map simple (take l.i l.a) ≡ map simple (take l.i l.b)
