use Rattle.og_search_rows.specs.Rows.{Extends}
use Rattle.og_search_elimination.proofs.working.Working.put_sums.Given as goal

abbrev pub invariant-loop-other : goal.invariant-loop-other
invariant-loop-other l = Extends l.fn.rows.rows l.rows.rows
