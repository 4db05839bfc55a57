use Rattle.std.proofs.Common.{◌≡◌, ◌+◌, ◌-◌, drop}
use Rattle.std.specs.Prelude.{slice_get}
use Rattle.og_review_text.specs.Seen.{points_of}
use Rattle.og_command_notes.specs.Together.{AreBlocks, pairs_in}
use Rattle.og_command_notes.proofs.together.row_of.Given as goal

-- the pairs with the rest, too, will have come
abbrev pub invariant-loop-column : goal.invariant-loop-column
invariant-loop-column l =
    AreBlocks (points_of l.points) l.row.items
    × (l.pairs.left - pairs_in (slice_get (points_of l.points) l.index) (drop l.column (points_of l.points))
    ≡ l.initial.pairs.left - pairs_in (slice_get (points_of l.points) l.index) (drop (l.index + 1) (points_of l.points)))
