use Rattle.std.proofs.Common.{◌≡◌, ℤ, ◌+ℤ◌, List, drop}
use Rattle.og_search_rows.specs.Inequality.{left_side}
use Rattle.og_search_rows.specs.Rows.{weighted}
use Rattle.og_search_rows.proofs.rows.Rows.total.Given as goal

abbrev pub invariant-loop-part : goal.invariant-loop-part
invariant-loop-part l = record {
  same : l.self ≡ l.fn.self;
  sum : (s : List ℤ) → left_side l.total s +ℤ weighted l.fn.self.rows (drop l.part-index l.sum) s ≡ weighted l.fn.self.rows l.sum s;
}
