use Rattle.og_search_rows.specs.Rows.{Extends}
use Rattle.og_search_rows.specs.Bounds.{LeadsBack}
use Rattle.og_search_elimination.proofs.narrowing.narrow_by.Given as goal

abbrev pub invariant-loop-term : goal.invariant-loop-term
invariant-loop-term l = record {
  extends : Extends l.fn.rows.rows l.rows.rows;
  back : LeadsBack l.bounds l.fn.bounds;
}
