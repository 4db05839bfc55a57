use Rattle.std.proofs.Common.{◌≡◌, drop}
use Rattle.og_typed.specs.Resolved.{declared_vars}
use Rattle.og_typed.proofs.resolving.declare_vars.Given as goal

abbrev pub invariant-loop-name : goal.invariant-loop-name
invariant-loop-name l = declared_vars l.names (drop l.name-index l.vars) ≡ declared_vars l.fn.names l.vars
