use Rattle.std.proofs.Common.{◌≡◌, take, map}
use Rattle.og_typed.specs.Plain.{sequence}
use Rattle.og_cond.specs.Conditions.{last_hypotheses}
use Rattle.og_cond.specs.Seen.{hypothesis_of}
use Rattle.og_cond.proofs.whole.last_hypotheses.Given as goal

abbrev pub invariant-loop-process : goal.invariant-loop-process
invariant-loop-process l = map hypothesis_of l.hypotheses.items ≡ last_hypotheses (map sequence (take l.process-index l.processes))
