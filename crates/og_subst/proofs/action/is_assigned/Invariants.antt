use Rattle.std.proofs.Common.{◌≡◌, map, drop}
use Rattle.og_typed.specs.Plain.{simple}
use Rattle.og_subst.specs.Actions.{assigns}
use Rattle.og_subst.proofs.action.is_assigned.Given as goal

abbrev pub invariant-loop-basic : goal.invariant-loop-basic
invariant-loop-basic l = assigns l.var (map simple (drop l.basic-index l.body)) ≡ assigns l.var (map simple l.body)
