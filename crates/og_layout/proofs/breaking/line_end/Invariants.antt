use Rattle.std.proofs.Common.{length, ◌-◌, ◌<◌, ◌≤◌}
use Rattle.og_layout.proofs.breaking.line_end.Given as goal

abbrev pub invariant-line : goal.invariant-line
invariant-line l = (l.from < l.to) × (l.to ≤ length l.parts)

abbrev pub decreases-line : goal.decreases-line
decreases-line l = length l.parts - l.to
