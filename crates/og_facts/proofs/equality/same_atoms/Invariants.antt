use Rattle.std.proofs.Common.{◌≡◌, ◌-◌, ◌≤◌, length, take}
use Rattle.og_facts.proofs.equality.same_atoms.Given as goal

abbrev pub invariant-loop-term : goal.invariant-loop-term
invariant-loop-term l = record {
  inside : l.i ≤ length l.a.terms;
  same : take l.i l.a.terms ≡ take l.i l.b.terms;
}

abbrev pub decreases-loop-term : goal.decreases-loop-term
decreases-loop-term l = length l.a.terms - l.i
