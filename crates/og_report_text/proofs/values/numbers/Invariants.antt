use Rattle.std.proofs.Common.{◌≡◌}
use Rattle.og_report_text.specs.Values.{numbers}
use Rattle.og_report_text.proofs.values.numbers.Given as goal

abbrev pub invariant-loop-var : goal.invariant-loop-var
invariant-loop-var l = l.vars.items ≡ numbers l.var
