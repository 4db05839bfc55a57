use Rattle.std.proofs.Common.{List}
use Rattle.og_cond.specs.Condition.{Condition}
use Rattle.og_find.specs.declared.verdict.Verdict.{Verdict}
use Rattle.og_find_all.specs.Findings.{AreOfFirsts, AreKnown}
use Rattle.og_find_all.proofs.gathering.known_leaders.Given as goal

abbrev pub invariant-loop-place : goal.invariant-loop-place
invariant-loop-place l = (cs : List Condition) (verdicts : List Verdict) → AreOfFirsts cs l.leaders verdicts → AreKnown cs verdicts l.known.items
