use Rattle.std.proofs.Common.{◌≡◌, take, map}
use Rattle.og_typed.specs.Plain.{formula}
use Rattle.og_typed.proofs.assertion.+copying.Given as goal

abbrev pub invariant-copies-loop-a : goal.invariant-copies-loop-a
invariant-copies-loop-a l = map formula l.copies.items ≡ map formula (take l.a-index l.all)
