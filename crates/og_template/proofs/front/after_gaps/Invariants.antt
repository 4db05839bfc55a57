use Rattle.std.proofs.Common.{◌≡◌, length}
use Rattle.std.specs.Prelude.{false}
use Rattle.og_template.specs.Front.{after_gaps}
use Rattle.og_template.proofs.front.after_gaps.Given as goal

abbrev pub invariant-gaps : goal.invariant-gaps
invariant-gaps l = after_gaps l.in_comment l.rest ≡ after_gaps false l.text

abbrev pub decreases-gaps : goal.decreases-gaps
decreases-gaps l = length l.rest
