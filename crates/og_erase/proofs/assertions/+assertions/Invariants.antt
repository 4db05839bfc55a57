use Rattle.std.proofs.Common.{◌≡◌, drop, length, map, take, true}
use Rattle.og_parse.specs.TreeOf.{assertion_of}
use Rattle.og_typed.specs.Plain.{formula}
use Rattle.og_typed.specs.Rule.{is_usable_form}
use Rattle.og_typed.specs.Lists.{formula_list}
use Rattle.og_typed.specs.Forms.{each_form_in}
use Rattle.og_erase.specs.Collected as collected
use Rattle.og_erase.proofs.assertions.+assertions.Given as goal

abbrev pub invariant-assertions-loop-a : goal.invariant-assertions-loop-a
invariant-assertions-loop-a l = record {
  usable : each_form_in (is_usable_form (length l.names)) (formula_list (map formula (drop l.a-index l.all))) ≡ true;
  made : map assertion_of l.out.items ≡ map (collected.assertion l.names) (map formula (take l.a-index l.all));
}
