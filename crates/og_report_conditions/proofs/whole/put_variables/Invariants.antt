use Rattle.std.proofs.Common.{◌≡◌, ◌++◌, drop}
use Rattle.og_report_conditions.specs.Script.{variables_lines}
use Rattle.og_report_conditions.proofs.whole.put_variables.Given as goal

abbrev pub invariant-loop-var : goal.invariant-loop-var
invariant-loop-var l = l.text.items ++ variables_lines l.names l.var (drop l.var l.names) ≡ l.initial.text.items ++ variables_lines l.names 0 l.names
