use Rattle.std.proofs.Common.{map, drop}
use Rattle.std.specs.Prelude.{All}
use Rattle.og_typed.specs.Plain.{simple}
use Rattle.og_completion.specs.Completes.{IsMark}
use Rattle.og_completion.proofs.bodies.are_marks.Given as goal

-- where the rest are marks, all are
abbrev pub invariant-loop-basic : goal.invariant-loop-basic
invariant-loop-basic l = All (IsMark l.count) (map simple (drop l.basic-index l.rest)) → All (IsMark l.count) (map simple l.rest)
