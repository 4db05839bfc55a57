use Rattle.std.proofs.Common.{◌≡◌, ◌++◌, drop}
use Rattle.og_typed.specs.declared.statement.Seq.{out-Seq}
use Rattle.og_typed.specs.Plain.{noted, sequence}
use Rattle.og_review_text.specs.Points.{sequence_points}
use Rattle.og_review_text.specs.Seen.{points_of, steps_of}
use Rattle.og_review_text.specs.Steps.{sequence_steps}
use Rattle.og_review_text.proofs.WalkItems.{points_from, steps_from}
use Rattle.og_review_text.proofs.walk.+walking.Given as goal

abbrev pub decreases-add_seq : goal.decreases-add_seq
decreases-add_seq l = goal.size-add_seq l

abbrev pub decreases-add_item : goal.decreases-add_item
decreases-add_item l = goal.size-add_item l

-- the rest of both lists completes them
abbrev pub invariant-add_seq-loop-item : goal.invariant-add_seq-loop-item
invariant-add_seq-loop-item l =
    (points_of l.walk.points.items ++ points_from l.part (drop l.item-index l.item-items) (noted (out-Seq l.seq).last)
    ≡ points_of l.fn.walk.points.items ++ sequence_points l.part (sequence l.seq))
    × (steps_of l.walk.steps.items ++ steps_from l.part (drop l.item-index l.item-items) (noted (out-Seq l.seq).last)
    ≡ steps_of l.fn.walk.steps.items ++ sequence_steps l.part (sequence l.seq))
