use Rattle.std.proofs.Common.{◌≡◌, drop, map}
use Rattle.og_cond.specs.Seen.{part_of}
use Rattle.og_facts.specs.Answer.{shown, added_to}
use Rattle.og_facts.specs.Walk.{walk_parts}
use Rattle.og_facts.proofs.hypotheses.add_parts.Given as goal

abbrev pub invariant-loop-part : goal.invariant-loop-part
invariant-loop-part l =
    added_to (shown l.facts) (walk_parts (map part_of (drop l.part-index l.parts))) ≡ added_to (shown l.fn.facts) (walk_parts (map part_of l.parts))
