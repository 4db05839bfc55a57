use Rattle.std.proofs.Common.{◌≡◌, ℤ, ◌+ℤ◌, List, drop}
use Rattle.og_linear.specs.Linear.{val_terms}
use Rattle.og_search_rows.specs.Inequality.{sum_at}
use Rattle.og_search_rows.proofs.inequality.Inequality.of_form.Given as goal

abbrev pub invariant-loop-i : goal.invariant-loop-i
invariant-loop-i l = (s : List ℤ) → sum_at l.terms.items s +ℤ val_terms (drop l.i l.form.terms) s ≡ val_terms l.form.terms s
