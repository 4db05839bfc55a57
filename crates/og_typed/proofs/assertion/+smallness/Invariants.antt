use Rattle.std.proofs.Common.{◌≡◌, drop, map}
use Rattle.og_linear.specs.Linear.{is_small}
use Rattle.og_typed.specs.Lists.{formula_list}
use Rattle.og_typed.specs.Plain.{formula}
use Rattle.og_typed.specs.Forms.{each_form_in}
use Rattle.og_typed.proofs.assertion.+smallness.Given as goal

abbrev pub invariant-are_small-loop-a : goal.invariant-are_small-loop-a
invariant-are_small-loop-a l = each_form_in is_small (formula_list (map formula (drop l.a-index l.all))) ≡ each_form_in is_small (formula_list (map formula l.all))
