use Rattle.std.proofs.Common.{ℤ, ◌+ℤ◌, List, drop}
use Rattle.std.specs.Prelude.{◌≤ℤ◌}
use Rattle.og_search_rows.specs.Inequality.{sum_at}
use Rattle.og_search_rows.specs.Bounds.{Within}
use Rattle.og_search_rows.proofs.bounds.Bounds.greatest.Given as goal

abbrev pub invariant-loop-term : goal.invariant-loop-term
invariant-loop-term l =
    (s : List ℤ) → Within l.self.intervals s → (l.form.constant +ℤ sum_at l.term-items s) ≤ℤ (l.sum +ℤ sum_at (drop l.term-index l.term-items) s)
