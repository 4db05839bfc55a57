use Rattle.std.proofs.Common.{◌≡◌, map, take}
use Rattle.og_typed.specs.Plain.{formula}
use Rattle.og_completion.proofs.assertions.+equality.Given as goal

abbrev pub invariant-begins_with-loop-i : goal.invariant-begins_with-loop-i
invariant-begins_with-loop-i l = map formula (take l.i l.all) ≡ map formula (take l.i l.first)
