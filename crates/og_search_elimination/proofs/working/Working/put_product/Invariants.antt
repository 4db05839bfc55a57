use Rattle.og_search_rows.specs.Rows.{Extends}
use Rattle.og_search_elimination.proofs.working.Working.put_product.Given as goal

abbrev pub invariant-loop-above : goal.invariant-loop-above
invariant-loop-above l = Extends l.fn.rows.rows l.rows.rows
