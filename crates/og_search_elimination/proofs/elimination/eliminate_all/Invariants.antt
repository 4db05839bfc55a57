use Rattle.og_search_rows.specs.Rows.{Extends}
use Rattle.og_search_elimination.proofs.elimination.eliminate_all.Given as goal

abbrev pub invariant-loop : goal.invariant-loop
invariant-loop l = Extends l.fn.rows.rows l.rows.rows
