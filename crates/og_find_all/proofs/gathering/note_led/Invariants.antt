use Rattle.std.proofs.Common.{List}
use Rattle.og_cond.specs.Condition.{Condition}
use Rattle.og_find.specs.declared.verdict.Verdict.{Verdict}
use Rattle.og_find_all.specs.Findings.{AreTried, AreKnown}
use Rattle.og_find_all.proofs.gathering.note_led.Given as goal

abbrev pub invariant-loop-place : goal.invariant-loop-place
invariant-loop-place l = (cs : List Condition) (verdicts : List Verdict) → AreTried cs verdicts l.followers l.own → AreKnown cs verdicts l.initial.known.items → AreKnown cs verdicts l.known.items
