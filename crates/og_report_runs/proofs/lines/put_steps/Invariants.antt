use Rattle.std.proofs.Common.{◌≡◌, ◌++◌, [], drop}
use Rattle.og_report_runs.specs.Lines.{steps_text}
use Rattle.og_report_runs.proofs.lines.put_steps.Given as goal

abbrev pub invariant-loop-p : goal.invariant-loop-p
invariant-loop-p l = l.text.items ++ steps_text l.main l.between (drop l.p-index l.history) ≡ l.initial.text.items ++ steps_text l.main [] l.history
