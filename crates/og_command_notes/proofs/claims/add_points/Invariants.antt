use Rattle.std.proofs.Common.{◌≡◌, ◌++◌, map, drop}
use Rattle.std.specs.Prelude.{flat_map}
use Rattle.std.specs.List.{AllByRecursion}
use Rattle.og_command_notes.specs.Claims.{question_of, point_questions, IsFound}
use Rattle.og_review_text.specs.Seen.{points_of}
use Rattle.og_command_notes.specs.Seen.{claims_of}
use Rattle.og_command_notes.proofs.claims.add_points.Given as goal

abbrev pub invariant-loop-point : goal.invariant-loop-point
invariant-loop-point l =
    (map question_of (claims_of l.claims.items) ++ flat_map point_questions (points_of (drop l.point-index l.points))
    ≡ map question_of (claims_of l.initial.claims.items) ++ flat_map point_questions (points_of l.points))
    × (AllByRecursion IsFound (claims_of l.initial.claims.items) → AllByRecursion IsFound (claims_of l.claims.items))
