use Rattle.std.proofs.Common.{◌≡◌, ◌++◌, drop, map}
use Rattle.og_typed.specs.Lists.{formula_list}
use Rattle.og_typed.specs.Plain.{formula}
use Rattle.og_report_conditions.specs.Script.{formulas_text}
use Rattle.og_report_conditions.proofs.formulas.+formulas.Given as goal

abbrev pub invariant-put_formulas-loop-assert : goal.invariant-put_formulas-loop-assert
invariant-put_formulas-loop-assert l =
    l.text.items ++ formulas_text l.names (formula_list (map formula (drop l.assert-index l.all))) ≡ l.initial.text.items ++ formulas_text l.names (formula_list (map formula l.all))
