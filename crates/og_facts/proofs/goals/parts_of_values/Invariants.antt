use Rattle.std.proofs.Common.{◌≡◌, drop, map}
use Rattle.og_facts.specs.Answer.{shown}
use Rattle.og_facts.specs.Walk.{walk_values}
use Rattle.og_facts.proofs.Adding.{room_after_parts}
use Rattle.og_facts.proofs.goals.parts_of_values.Given as goal

abbrev pub invariant-loop-value : goal.invariant-loop-value
invariant-loop-value l = room_after_parts (map shown l.parts.items) (walk_values (drop l.value-index l.values)) ≡ walk_values l.values
