use Rattle.std.proofs.Common.{ℕ, ◌<◌, get_or}
use Rattle.og_search_rows.specs.Rows.{HoldsAt}
use Rattle.og_search_rows.proofs.rows.Rows.all_hold.Given as goal

abbrev pub invariant-loop-row : goal.invariant-loop-row
invariant-loop-row l = (k : ℕ) → k < l.row-index → HoldsAt l.self.rows (get_or l.rows k 0) l.model
