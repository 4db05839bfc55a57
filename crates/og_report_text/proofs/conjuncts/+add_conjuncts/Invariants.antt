use Rattle.std.proofs.Common.{◌≡◌, ◌++◌, drop, map}
use Rattle.og_typed.specs.Lists.{formula_list}
use Rattle.og_typed.specs.Plain.{formula}
use Rattle.og_report_text.specs.Conjuncts.{conjuncts, conjuncts_in}
use Rattle.og_report_text.specs.Seen.{formulas_of}
use Rattle.og_report_text.proofs.conjuncts.+add_conjuncts.Given as goal

abbrev pub invariant-loop-a : goal.invariant-loop-a
invariant-loop-a l = formulas_of l.list.items ++ conjuncts_in (formula_list (map formula (drop l.a-index l.a-items))) ≡ formulas_of l.initial.list.items ++ conjuncts (formula l.assert)
