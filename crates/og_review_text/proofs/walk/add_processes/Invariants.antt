use Rattle.std.proofs.Common.{◌≡◌, ◌++◌, map}
use Rattle.og_typed.specs.Plain.{sequence}
use Rattle.og_typed.specs.Sites.{of_processes}
use Rattle.og_typed.proofs.SiteItems.{processes_from}
use Rattle.og_review_text.specs.Points.{sequence_points}
use Rattle.og_review_text.specs.Seen.{points_of, steps_of}
use Rattle.og_review_text.specs.Steps.{sequence_steps}
use Rattle.og_review_text.proofs.walk.add_processes.Given as goal

abbrev pub invariant-loop-index : goal.invariant-loop-index
invariant-loop-index l =
    (points_of l.walk.points.items ++ processes_from sequence_points l.index l.processes
    ≡ points_of l.fn.walk.points.items ++ of_processes sequence_points 0 (map sequence l.processes))
    × (steps_of l.walk.steps.items ++ processes_from sequence_steps l.index l.processes
    ≡ steps_of l.fn.walk.steps.items ++ of_processes sequence_steps 0 (map sequence l.processes))
