use Rattle.std.proofs.Common.{◌≡◌, ◌++◌, map, drop}
use Rattle.og_cond.specs.Condition.{Is}
use Rattle.og_cond.specs.Seen.{hypothesis_of, part_of}
use Rattle.og_command_notes.proofs.claims.hypotheses_of.Given as goal

abbrev pub invariant-loop-fact : goal.invariant-loop-fact
invariant-loop-fact l = map hypothesis_of l.hypotheses.items ++ map Is (map part_of (drop l.fact-index l.facts)) ≡ map Is (map part_of l.facts)
