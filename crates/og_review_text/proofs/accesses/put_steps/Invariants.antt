use Rattle.std.proofs.Common.{◌≡◌, ◌++◌, drop}
use Rattle.std.specs.Prelude.{flat_map}
use Rattle.og_review_text.specs.Accesses.{step_line, step_lines}
use Rattle.og_review_text.specs.Seen.{steps_of}
use Rattle.og_review_text.proofs.accesses.put_steps.Given as goal

abbrev pub invariant-loop-step : goal.invariant-loop-step
invariant-loop-step l =
    l.text.items ++ flat_map (step_line l.origins.source.now l.origins.rows l.outline.names l.outline.vars (steps_of l.steps)) (steps_of (drop l.step-index l.steps))
    ≡ l.initial.text.items ++ step_lines l.origins.source.now l.origins.rows l.outline.names l.outline.vars (steps_of l.steps)
