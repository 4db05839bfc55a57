use Rattle.std.proofs.Common.{◌≡◌, ◌++◌, drop}
use Rattle.og_report_text.specs.Seen.{formulas_of}
use Rattle.og_report_explain.specs.Explained.{false_ones}
use Rattle.og_report_explain.proofs.explaining.false_ones.Given as goal

abbrev pub invariant-loop-assert : goal.invariant-loop-assert
invariant-loop-assert l = formulas_of l.found.items ++ false_ones l.values (formulas_of (drop l.assert-index l.all)) ≡ false_ones l.values (formulas_of l.all)
