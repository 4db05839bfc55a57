use Rattle.std.proofs.Common.{◌≤◌, ◌+◌, ◌-◌, ◌+ℤ◌, ◌*ℤ◌, length}
use Rattle.og_search_rows.specs.Inequality.{sum_at}
use Rattle.og_search_rows.proofs.Merges.{Sums}
use Rattle.og_search_rows.proofs.inequality.put_sum.Given as goal

abbrev pub invariant-both : goal.invariant-both
invariant-both l = record {
  sums : Sums l.a l.b l.m l.k l.terms.items l.i l.j (λ s. sum_at l.fn.terms.items s +ℤ (l.m *ℤ sum_at l.a s +ℤ l.k *ℤ sum_at l.b s));
  first : l.i ≤ length l.a;
  second : l.j ≤ length l.b;
}

abbrev pub decreases-both : goal.decreases-both
decreases-both l = (length l.a - l.i) + (length l.b - l.j)
