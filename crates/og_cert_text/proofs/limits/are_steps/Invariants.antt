use Rattle.std.proofs.Common.{◌≡◌, drop, map}
use Rattle.std.specs.List.{list_all}
use Rattle.og_cert_text.specs.Plain.{step_line}
use Rattle.og_cert_text.specs.Lines.{is_line}
use Rattle.og_cert_text.proofs.limits.are_steps.Given as goal

abbrev pub invariant-loop-step : goal.invariant-loop-step
invariant-loop-step l = list_all is_line (map step_line (drop l.step-index l.steps)) ≡ list_all is_line (map step_line l.steps)
