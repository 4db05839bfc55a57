use Rattle.std.proofs.Common.{◌≡◌, ℕ, List, Option, Some, vec_len}
use Rattle.std.specs.Prelude.{slice_get}
use Rattle.std.specs.Global.{Box}
use Rattle.og_cond.specs.Condition.{Condition}
use Rattle.og_find.specs.declared.verdict.Verdict.{Verdict}
use Rattle.og_find_all.specs.Findings.{AreTried, AreKnown}
use Rattle.og_find_all.proofs.gathering.Gathered.add_all.Given as goal

abbrev pub invariant-loop-last : goal.invariant-loop-last
invariant-loop-last l = record {
  rest : (i : ℕ) (o : Option (Box Verdict)) → slice_get l.own.items i ≡ Some o → slice_get l.fn.own.items i ≡ Some o;
  known : (cs : List Condition) (led : List Verdict) → AreTried cs led l.followers l.fn.own.items → AreKnown cs l.initial.self.verdicts.items l.initial.self.known.items
      → AreKnown cs l.self.verdicts.items l.self.known.items;
}

abbrev pub decreases-loop-last : goal.decreases-loop-last
decreases-loop-last l = vec_len l.own
