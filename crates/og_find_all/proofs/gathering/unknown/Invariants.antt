use Rattle.std.proofs.Common.{List}
use Rattle.og_cond.specs.Condition.{Condition}
use Rattle.og_find.specs.declared.verdict.Verdict.{Verdict}
use Rattle.og_find_all.specs.Findings.{AreKnown}
use Rattle.og_find_all.proofs.gathering.unknown.Given as goal

abbrev pub invariant-loop : goal.invariant-loop
invariant-loop l = (cs : List Condition) (verdicts : List Verdict) → AreKnown cs verdicts l.known.items
