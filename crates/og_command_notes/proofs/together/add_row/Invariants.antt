use Rattle.og_review_text.specs.Seen.{points_of}
use Rattle.og_command_notes.specs.Together.{AreBlocks}
use Rattle.og_command_notes.proofs.together.add_row.Given as goal

abbrev pub invariant-loop-block : goal.invariant-loop-block
invariant-loop-block l = AreBlocks (points_of l.points) l.blocks.items
