use Rattle.std.proofs.Common.{◌≡◌}
use Rattle.og_report_runs.specs.Lines.{nonzero}
use Rattle.og_report_runs.proofs.lines.nonzero.Given as goal

abbrev pub invariant-loop-var : goal.invariant-loop-var
invariant-loop-var l = l.vars.items ≡ nonzero l.values l.var
