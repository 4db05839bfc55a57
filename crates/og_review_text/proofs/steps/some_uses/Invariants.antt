use Rattle.std.proofs.Common.{◌≡◌, drop}
use Rattle.std.specs.List.{list_any}
use Rattle.og_review_text.specs.Seen.{steps_of}
use Rattle.og_review_text.specs.Steps.{is_used_beside}
use Rattle.og_review_text.proofs.steps.some_uses.Given as goal

abbrev pub invariant-loop-step : goal.invariant-loop-step
invariant-loop-step l = list_any (is_used_beside l.part l.var) (steps_of (drop l.step-index l.steps)) ≡ list_any (is_used_beside l.part l.var) (steps_of l.steps)
