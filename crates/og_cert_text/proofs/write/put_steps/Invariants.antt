use Rattle.std.proofs.Common.{◌≡◌, ◌++◌, drop, map}
use Rattle.og_cert_text.specs.Plain.{step_line}
use Rattle.og_cert_text.specs.Listing.{lines_text}
use Rattle.og_cert_text.proofs.write.put_steps.Given as goal

abbrev pub invariant-loop-step : goal.invariant-loop-step
invariant-loop-step l = l.text.items ++ lines_text (map step_line (drop l.step-index l.steps)) ≡ l.initial.text.items ++ lines_text (map step_line l.steps)
