use Rattle.std.proofs.Common.{◌≡◌, ℤ, ◌+ℤ◌, List, drop}
use Rattle.og_search_rows.specs.Inequality.{sum_at}
use Rattle.og_search_rows.proofs.inequality.are_opposite.Given as goal

abbrev pub invariant-loop-i : goal.invariant-loop-i
invariant-loop-i l = (s : List ℤ) → sum_at (drop l.i l.a) s +ℤ sum_at (drop l.i l.b) s ≡ sum_at l.a s +ℤ sum_at l.b s
