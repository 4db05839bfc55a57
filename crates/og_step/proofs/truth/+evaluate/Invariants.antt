use Rattle.std.proofs.Common.{◌≡◌, drop, map, length, true}
use Rattle.og_typed.specs.Lists.{formula_list}
use Rattle.og_typed.specs.Plain.{formula}
use Rattle.og_typed.specs.Truth.{truth, all_true, some_true}
use Rattle.og_typed.specs.Forms.{each_form_in}
use Rattle.og_step.specs.Readable.{is_readable}
use Rattle.og_step.proofs.truth.+evaluate.Given as goal

abbrev pub invariant-loop-a : goal.invariant-loop-a
invariant-loop-a l = record {
  value : all_true (formula_list (map formula (drop l.a-index l.a-items))) l.state ≡ truth (formula l.assert) l.state;
  readable : each_form_in (is_readable (length l.state)) (formula_list (map formula (drop l.a-index l.a-items))) ≡ true;
}

abbrev pub invariant-loop-a-2 : goal.invariant-loop-a-2
invariant-loop-a-2 l = record {
  value : some_true (formula_list (map formula (drop l.a-index l.a-items))) l.state ≡ truth (formula l.assert) l.state;
  readable : each_form_in (is_readable (length l.state)) (formula_list (map formula (drop l.a-index l.a-items))) ≡ true;
}
