use Rattle.std.proofs.Common.{◌≡◌, [], drop}
use Rattle.og_typed.specs.Resolved.{declared_auxes}
use Rattle.og_typed.proofs.resolving.declare_auxes.Given as goal

abbrev pub invariant-loop-aux : goal.invariant-loop-aux
invariant-loop-aux l = declared_auxes l.names l.values.items (drop l.aux-index l.auxes) ≡ declared_auxes l.fn.names [] l.auxes
