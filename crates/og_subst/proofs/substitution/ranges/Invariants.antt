use Rattle.std.proofs.Common.{◌≡◌, map, drop}
use Rattle.og_typed.specs.Plain.{formula}
use Rattle.og_subst.specs.Subst.{ranges}
use Rattle.og_subst.proofs.Mapping.{behind}
use Rattle.og_subst.proofs.substitution.ranges.Given as goal

abbrev pub invariant-loop-value : goal.invariant-loop-value
invariant-loop-value l = behind (map formula l.out.items) (ranges (drop l.value-index l.values)) ≡ ranges l.values
