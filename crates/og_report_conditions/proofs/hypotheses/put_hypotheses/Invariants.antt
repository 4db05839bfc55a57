use Rattle.std.proofs.Common.{◌≡◌, ◌++◌, drop, map}
use Rattle.og_cond.specs.Seen.{hypothesis_of}
use Rattle.og_report_conditions.specs.Script.{hypotheses_lines}
use Rattle.og_report_conditions.proofs.hypotheses.put_hypotheses.Given as goal

abbrev pub invariant-loop-hypothesis : goal.invariant-loop-hypothesis
invariant-loop-hypothesis l = l.text.items ++ hypotheses_lines l.names (map hypothesis_of (drop l.hypothesis-index l.hypotheses)) ≡ l.initial.text.items ++ hypotheses_lines l.names (map hypothesis_of l.hypotheses)
