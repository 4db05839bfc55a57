use Rattle.std.proofs.Common.{◌≡◌, drop, option_map}
use Rattle.og_review_text.specs.Seen.{steps_of}
use Rattle.og_report_findings.specs.Bounds.{with_steps}
use Rattle.og_report_findings.proofs.bounds.Numbers.add_steps.Given as goal

abbrev pub invariant-loop-step : goal.invariant-loop-step
invariant-loop-step l = with_steps l.var (steps_of (drop l.step-index l.steps)) (option_map (λ v. v.items) l.self.list) ≡ with_steps l.var (steps_of l.steps) (option_map (λ v. v.items) l.initial.self.list)
