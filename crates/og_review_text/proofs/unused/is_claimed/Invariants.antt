use Rattle.std.proofs.Common.{◌≡◌, drop}
use Rattle.og_review_text.specs.Seen.{points_of}
use Rattle.og_review_text.specs.Unused as plain
use Rattle.og_review_text.proofs.unused.is_claimed.Given as goal

abbrev pub invariant-loop-point : goal.invariant-loop-point
invariant-loop-point l = plain.is_claimed (points_of (drop l.point-index l.points)) l.var ≡ plain.is_claimed (points_of l.points) l.var
