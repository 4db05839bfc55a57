use Rattle.std.proofs.Common.{◌≡◌, ◌++◌, [], drop}
use Rattle.og_report_text.specs.Conjuncts.{conjuncts_text}
use Rattle.og_report_text.specs.Seen.{formulas_of}
use Rattle.og_report_text.proofs.conjuncts.put_conjuncts.Given as goal

abbrev pub invariant-loop-assert : goal.invariant-loop-assert
invariant-loop-assert l = l.text.items ++ conjuncts_text l.names l.between (formulas_of (drop l.assert-index l.all)) ≡ l.initial.text.items ++ conjuncts_text l.names [] (formulas_of l.all)
