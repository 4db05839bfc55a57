use Rattle.std.proofs.Common.{◌≡◌, ◌++◌, drop, map}
use Rattle.og_cond.specs.Seen.{hypothesis_of}
use Rattle.og_command_prove.proofs.advising.copied_all.Given as goal

abbrev pub invariant-loop-hypothesis : goal.invariant-loop-hypothesis
invariant-loop-hypothesis l = map hypothesis_of l.all.items ++ map hypothesis_of (drop l.hypothesis-index l.hypotheses) ≡ map hypothesis_of l.hypotheses
