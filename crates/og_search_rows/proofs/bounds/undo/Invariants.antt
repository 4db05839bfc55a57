use Rattle.std.proofs.Common.{◌≡◌, ◌-◌, length, take, drop}
use Rattle.og_search_rows.specs.Bounds.{undone}
use Rattle.og_search_rows.proofs.bounds.undo.Given as goal

-- the rest leads back to where all leads
abbrev pub invariant-back : goal.invariant-back
invariant-back l = record {
  left : undone (drop l.from l.trail.items) l.intervals ≡ undone (drop l.from l.fn.trail.items) l.fn.intervals;
  kept : take l.from l.trail.items ≡ take l.from l.fn.trail.items;
}

abbrev pub decreases-back : goal.decreases-back
decreases-back l = length l.trail.items - l.from
