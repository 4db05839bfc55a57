use Rattle.std.proofs.Common.{◌≡◌}
use Rattle.og_subst.specs.Actions.{action_body}
use Rattle.og_report_explore.specs.Findings.{assigned_below}
use Rattle.og_report_explore.proofs.rows.assigned.Given as goal

abbrev pub invariant-loop-var : goal.invariant-loop-var
invariant-loop-var l = l.entries.items ≡ assigned_below l.var (action_body l.action) l.state
