use Rattle.std.proofs.Common.{◌≡◌, ◌++◌, drop}
use Rattle.og_subst.proofs.values.Values.of.Given as goal

abbrev pub invariant-loop-value : goal.invariant-loop-value
invariant-loop-value l = l.numbers.items ++ drop l.value-index l.values ≡ l.state
