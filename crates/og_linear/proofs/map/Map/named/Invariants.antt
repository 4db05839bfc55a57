use Rattle.std.proofs.Common.{◌≡◌, drop}
use Rattle.og_linear.specs.Bounded.{image}
use Rattle.og_linear.proofs.map.Map.named.Given as goal

abbrev pub invariant-loop-e : goal.invariant-loop-e
invariant-loop-e l = image (drop l.e-index l.e-items) l.var ≡ image l.e-items l.var
