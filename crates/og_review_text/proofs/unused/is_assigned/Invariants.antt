use Rattle.std.proofs.Common.{◌≡◌, drop}
use Rattle.og_review_text.specs.Seen.{steps_of}
use Rattle.og_review_text.specs.Unused as plain
use Rattle.og_review_text.proofs.unused.is_assigned.Given as goal

abbrev pub invariant-loop-step : goal.invariant-loop-step
invariant-loop-step l = plain.is_assigned (steps_of (drop l.step-index l.steps)) l.var ≡ plain.is_assigned (steps_of l.steps) l.var
