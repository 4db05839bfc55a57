use Rattle.std.proofs.Common.{◌≡◌, ◌-◌, ◌≤◌, length, drop}
use Rattle.og_facts.proofs.Atoms.{has_negation}
use Rattle.og_facts.proofs.atom.has_negation.Given as goal

abbrev pub invariant-loop-coefficient : goal.invariant-loop-coefficient
invariant-loop-coefficient l = record {
  inside : l.index ≤ length l.form.terms;
  same : has_negation (drop l.index l.form.terms) ≡ has_negation l.form.terms;
}

abbrev pub decreases-loop-coefficient : goal.decreases-loop-coefficient
decreases-loop-coefficient l = length l.form.terms - l.index
