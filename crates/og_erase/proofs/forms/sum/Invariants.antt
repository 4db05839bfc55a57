use Rattle.std.proofs.Common.{◌≡◌, ◌-◌, ◌≤◌, length, map, take}
use Rattle.og_erase.specs.Collected.{term}
use Rattle.og_erase.proofs.forms.sum.Given as goal

abbrev pub invariant-loop-t : goal.invariant-loop-t
invariant-loop-t l = record {
  inside : l.i ≤ length l.form.terms;
  made : l.terms.items ≡ map (term l.names) (take l.i l.form.terms);
}

abbrev pub decreases-loop-t : goal.decreases-loop-t
decreases-loop-t l = length l.form.terms - l.i
