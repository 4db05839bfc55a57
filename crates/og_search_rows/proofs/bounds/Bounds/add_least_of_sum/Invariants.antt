use Rattle.std.proofs.Common.{◌≤◌, ◌+◌, ◌-◌, ◌+ℤ◌, length}
use Rattle.og_search_rows.specs.Inequality.{sum_at}
use Rattle.og_search_rows.proofs.Merges.{StaysBelow}
use Rattle.og_search_rows.proofs.bounds.Bounds.add_least_of_sum.Given as goal

abbrev pub invariant-both : goal.invariant-both
invariant-both l = record {
  below : StaysBelow l.a l.b l.self.intervals l.sum l.i l.j (λ s. l.start +ℤ (sum_at l.a s +ℤ sum_at l.b s));
  first : l.i ≤ length l.a;
  second : l.j ≤ length l.b;
}

abbrev pub decreases-both : goal.decreases-both
decreases-both l = (length l.a - l.i) + (length l.b - l.j)
