use Rattle.std.proofs.Common.{◌≡◌, ℤ, ◌+ℤ◌, ◌*ℤ◌, List, drop}
use Rattle.og_search_rows.specs.Inequality.{sum_at}
use Rattle.og_search_rows.proofs.inequality.put_all.Given as goal

abbrev pub invariant-loop-term : goal.invariant-loop-term
invariant-loop-term l =
    (s : List ℤ) → sum_at l.terms.items s +ℤ l.times *ℤ sum_at (drop l.term-index l.more) s ≡ sum_at l.fn.terms.items s +ℤ l.times *ℤ sum_at l.more s
