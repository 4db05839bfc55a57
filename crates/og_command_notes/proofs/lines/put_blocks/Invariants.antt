use Rattle.std.proofs.Common.{◌≡◌, ◌++◌, drop}
use Rattle.std.specs.Prelude.{flat_map}
use Rattle.og_command_notes.specs.Notes.{block_line}
use Rattle.og_review_text.specs.Seen.{points_of}
use Rattle.og_command_notes.proofs.lines.put_blocks.Given as goal

abbrev pub invariant-loop-block : goal.invariant-loop-block
invariant-loop-block l =
    l.text.items ++ flat_map (block_line l.origins.source.now l.origins.rows (points_of l.points)) (drop l.block-index l.blocks)
    ≡ l.initial.text.items ++ flat_map (block_line l.origins.source.now l.origins.rows (points_of l.points)) l.blocks
