use Rattle.std.proofs.Common.{◌≡◌, drop, map}
use Rattle.og_typed.specs.Plain.{simple}
use Rattle.og_cond.specs.Sets.{has, assigns_some}
use Rattle.og_cond.proofs.count.assigns_any.Given as goal

abbrev pub invariant-loop-basic : goal.invariant-loop-basic
invariant-loop-basic l = assigns_some (has l.set) (map simple (drop l.basic-index l.body)) ≡ assigns_some (has l.set) (map simple l.body)
