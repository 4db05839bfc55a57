use Rattle.std.proofs.Common.{◌≡◌, map, drop}
use Rattle.og_typed.specs.Plain.{formula}
use Rattle.og_typed.specs.Lists.{formula_list}
use Rattle.og_subst.specs.Subst.{after_all}
use Rattle.og_subst.proofs.Mapping.{behind}
use Rattle.og_subst.proofs.substitution.+mapping.Given as goal

abbrev pub invariant-all_mapped-loop-a : goal.invariant-all_mapped-loop-a
invariant-all_mapped-loop-a l =
    behind (map formula l.out.items) (after_all l.forms (formula_list (map formula (drop l.a-index l.all)))) ≡ after_all l.forms (formula_list (map formula l.all))
