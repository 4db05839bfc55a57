use Rattle.std.proofs.Common.{◌≡◌, ℤ, ◌+ℤ◌, ◌*ℤ◌, List, drop}
use Rattle.og_search_rows.specs.Inequality.{sum_at}
use Rattle.og_search_rows.proofs.inequality.divided_terms.Given as goal

abbrev pub invariant-loop-term : goal.invariant-loop-term
invariant-loop-term l =
    (s : List ℤ) → l.divisor *ℤ sum_at l.out.items s +ℤ sum_at (drop l.term-index l.terms) s ≡ sum_at l.terms s
