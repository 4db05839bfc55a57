use Rattle.og_search_rows.specs.Rows.{Extends}
use Rattle.og_search_elimination.proofs.working.Working.put_several.Given as goal

abbrev pub invariant-loop-row : goal.invariant-loop-row
invariant-loop-row l = Extends l.fn.rows.rows l.rows.rows
