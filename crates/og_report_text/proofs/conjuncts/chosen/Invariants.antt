use Rattle.std.proofs.Common.{◌≡◌, ◌++◌, drop}
use Rattle.og_report_text.specs.Conjuncts.{chosen}
use Rattle.og_report_text.specs.Seen.{formulas_of}
use Rattle.og_report_text.proofs.conjuncts.chosen.Given as goal

abbrev pub invariant-loop-assert : goal.invariant-loop-assert
invariant-loop-assert l = formulas_of l.list.items ++ chosen l.vars (formulas_of (drop l.assert-index l.all)) ≡ chosen l.vars (formulas_of l.all)
