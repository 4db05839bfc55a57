use Rattle.std.proofs.Common.{◌≡◌, length, drop, map}
use Rattle.og_cond.specs.Seen.{parts_of}
use Rattle.og_facts.specs.Answer.{shown}
use Rattle.og_facts.specs.Walk.{walk_lists}
use Rattle.og_facts.proofs.Adding.{room_after_parts}
use Rattle.og_facts.proofs.hypotheses.add_lists.Given as goal

abbrev pub invariant-loop-parts : goal.invariant-loop-parts
invariant-loop-parts l = record {
  same : room_after_parts (map shown l.all.items) (walk_lists (map parts_of (drop l.parts-index l.lists))) ≡ walk_lists (map parts_of l.lists);
  long : length l.all.items ≡ l.parts-index;
}
