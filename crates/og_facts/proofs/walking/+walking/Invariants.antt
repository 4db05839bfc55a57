use Rattle.std.proofs.Common.{◌≡◌, length, drop, map}
use Rattle.std.specs.Prelude.{option_map}
use Rattle.og_typed.specs.Lists.{formula_list}
use Rattle.og_typed.specs.Plain.{formula}
use Rattle.og_facts.specs.Answer.{shown, added_to}
use Rattle.og_facts.specs.Walk.{walk_all, walk_each}
use Rattle.og_facts.proofs.Adding.{room_after_parts}
use Rattle.og_facts.proofs.walking.+walking.Given as goal

abbrev pub invariant-add_all-loop-a : goal.invariant-add_all-loop-a
invariant-add_all-loop-a l =
    added_to (shown l.facts) (walk_all (option_map (λ m. m.now) l.forms) l.is_true (formula_list (map formula (drop l.a-index l.all))))
    ≡ added_to (shown l.fn.facts) (walk_all (option_map (λ m. m.now) l.forms) l.is_true (formula_list (map formula l.all)))

abbrev pub invariant-add_some-loop-a : goal.invariant-add_some-loop-a
invariant-add_some-loop-a l = record {
  same : room_after_parts (map shown l.parts.items) (walk_each (option_map (λ m. m.now) l.forms) l.is_true (formula_list (map formula (drop l.a-index l.all))))
      ≡ walk_each (option_map (λ m. m.now) l.forms) l.is_true (formula_list (map formula l.all));
  long : length l.parts.items ≡ l.a-index;
}
