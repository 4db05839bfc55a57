use Rattle.std.proofs.Common.{◌≡◌, ◌+ℤ◌, drop}
use Rattle.og_linear.specs.Linear.{val, val_terms}
use Rattle.og_subst.proofs.truth.value_of.Given as goal

abbrev pub invariant-loop-i : goal.invariant-loop-i
invariant-loop-i l = val_terms (drop l.i l.form.terms) l.values +ℤ l.sum ≡ val l.form l.values
