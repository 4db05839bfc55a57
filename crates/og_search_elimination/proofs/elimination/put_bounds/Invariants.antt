use Rattle.og_search_rows.specs.Rows.{Extends}
use Rattle.og_search_elimination.proofs.elimination.put_bounds.Given as goal

abbrev pub invariant-loop-var : goal.invariant-loop-var
invariant-loop-var l = Extends l.fn.rows.rows l.rows.rows
