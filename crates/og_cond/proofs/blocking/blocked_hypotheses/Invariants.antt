use Rattle.std.proofs.Common.{◌≡◌, [], ◌∷◌, map, take}
use Rattle.og_typed.specs.Syntax.{last_of}
use Rattle.og_typed.specs.Plain.{sequence}
use Rattle.og_cond.specs.Condition.{OneOf, Yes}
use Rattle.og_cond.specs.Conditions.{blocked}
use Rattle.og_cond.specs.Seen.{hypothesis_of}
use Rattle.og_cond.proofs.blocking.blocked_hypotheses.Given as goal

abbrev pub invariant-loop-process : goal.invariant-loop-process
invariant-loop-process l =
    map hypothesis_of l.hypotheses.items
    ≡ map (λ process. OneOf ((Yes (last_of process).assertion ∷ []) ∷ blocked process)) (map sequence (take l.process-index l.processes))
