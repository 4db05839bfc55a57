use Rattle.std.proofs.Common.{◌≡◌, ◌-◌, ◌≤◌, length, take}
use Rattle.og_facts.proofs.atom.Atom.form.Given as goal

abbrev pub invariant-loop-term : goal.invariant-loop-term
invariant-loop-term l = record {
  inside : l.index ≤ length l.self.terms;
  made : l.terms.items ≡ take l.index l.self.terms;
}

abbrev pub decreases-loop-term : goal.decreases-loop-term
decreases-loop-term l = length l.self.terms - l.index
