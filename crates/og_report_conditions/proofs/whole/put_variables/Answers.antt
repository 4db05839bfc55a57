use Rattle.std.proofs.Common.{rules, ◌++◌}
use Rattle.og_report_conditions.specs.Script.{variables_lines}
use Rattle.og_report_conditions.proofs.Sums.{more_variables}
use Rattle.og_report_conditions.proofs.whole.put_variables.Goals as goal

pub loop-var-preserved : goal.loop-var-preserved
loop-var-preserved c =
    more_variables c.args.names.now c.args.names.now c.loop-var.text.items c.put_declaration.new.text.items (c.args.text.now.items ++ variables_lines c.args.names.now 0 c.args.names.now) c.loop-var.var c.loop-var-test.true (search rules) c.loop-var.invariant
