use Rattle.std.proofs.Common.{◌≡◌, ◌++◌, map, drop}
use Rattle.og_typed.specs.Syntax.{last_of}
use Rattle.og_typed.specs.Plain.{sequence}
use Rattle.og_cond.specs.Condition.{Yes}
use Rattle.og_cond.specs.Seen.{part_of}
use Rattle.og_command_notes.proofs.claims.last_facts.Given as goal

abbrev pub invariant-loop-process : goal.invariant-loop-process
invariant-loop-process l =
    map part_of l.facts.items ++ map (λ q. Yes (last_of q).assertion) (map sequence (drop l.process-index l.processes))
    ≡ map (λ q. Yes (last_of q).assertion) (map sequence l.processes)
