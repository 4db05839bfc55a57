use Rattle.std.proofs.Common.{◌+◌, drop}
use Rattle.og_report_explain.specs.Explained.{HaveValues}
use Rattle.og_report_explain.proofs.explaining.have_values.Given as goal

abbrev pub invariant-loop-i : goal.invariant-loop-i
invariant-loop-i l = HaveValues l.values (l.outline.vars + l.i) (drop l.i l.outline.aux_values) → HaveValues l.values l.outline.vars l.outline.aux_values
