use Rattle.std.proofs.Common.{◌≡◌, drop, map}
use Rattle.og_typed.specs.Lists.{formula_list}
use Rattle.og_typed.specs.Plain.{formula}
use Rattle.og_typed.specs.Truth.{truth, all_true, some_true}
use Rattle.og_subst.proofs.truth.+truth_of.Given as goal

abbrev pub invariant-loop-a : goal.invariant-loop-a
invariant-loop-a l = all_true (formula_list (map formula (drop l.a-index l.a-items))) l.values ≡ truth (formula l.assert) l.values

abbrev pub invariant-loop-a-2 : goal.invariant-loop-a-2
invariant-loop-a-2 l = some_true (formula_list (map formula (drop l.a-index l.a-items))) l.values ≡ truth (formula l.assert) l.values
