use Rattle.std.proofs.Common.{◌≡◌, ◌-◌, drop}
use Rattle.og_review_text.specs.Seen.{points_of}
use Rattle.og_command_notes.specs.Together.{AreBlocks, pair_count}
use Rattle.og_command_notes.proofs.together.compared.Given as goal

-- the pairs among the rest, too, will have come
abbrev pub invariant-loop-index : goal.invariant-loop-index
invariant-loop-index l =
    AreBlocks (points_of l.points) l.blocks.items × (l.pairs.left - pair_count (drop l.index (points_of l.points)) ≡ 20001 - pair_count (points_of l.points))
