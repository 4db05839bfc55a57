use Rattle.og_search_rows.specs.Rows.{Extends}
use Rattle.og_search_rows.proofs.rows.Rows.put_bounds.Given as goal

abbrev pub invariant-loop-term : goal.invariant-loop-term
invariant-loop-term l = Extends l.fn.self.rows l.self.rows
