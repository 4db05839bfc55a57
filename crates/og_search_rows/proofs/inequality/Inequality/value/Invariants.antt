use Rattle.std.proofs.Common.{◌≡◌, ◌+ℤ◌, drop}
use Rattle.og_search_rows.specs.Inequality.{sum_at}
use Rattle.og_search_rows.proofs.inequality.Inequality.value.Given as goal

abbrev pub invariant-loop-term : goal.invariant-loop-term
invariant-loop-term l = l.sum +ℤ sum_at (drop l.term-index l.term-items) l.model ≡ l.self.constant +ℤ sum_at l.term-items l.model
