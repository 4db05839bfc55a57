use Rattle.std.proofs.Common.{◌≡◌, ◌-◌, length, take}
use Rattle.og_search_rows.proofs.rows.recycle.Given as goal

-- the rows that stay are there
abbrev pub invariant-back : goal.invariant-back
invariant-back l = take l.from l.rows.items ≡ take l.from l.fn.rows.items

abbrev pub decreases-back : goal.decreases-back
decreases-back l = length l.rows.items - l.from
