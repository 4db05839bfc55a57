use Rattle.std.proofs.Common.{◌≡◌, map, take}
use Rattle.og_facts.specs.Answer.{shown}
use Rattle.og_facts.specs.Plain.{plain_fact}
use Rattle.og_facts.proofs.equality.+equality.Given as goal

abbrev pub invariant-same_fact-loop-i : goal.invariant-same_fact-loop-i
invariant-same_fact-loop-i l = map shown (take l.i l.parts.items) ≡ map shown (take l.i l.others.items)

abbrev pub invariant-same_facts-loop-i : goal.invariant-same_facts-loop-i
invariant-same_facts-loop-i l = map plain_fact (take l.i l.a) ≡ map plain_fact (take l.i l.b)
