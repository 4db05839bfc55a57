use Rattle.std.proofs.Common.{◌≡◌, ◌++◌, [], drop, map}
use Rattle.og_typed.specs.Lists.{formula_list}
use Rattle.og_typed.specs.Plain.{formula}
use Rattle.og_report_text.specs.Assertions.{joined_text}
use Rattle.og_report_text.proofs.assertions.+assertions.Given as goal

abbrev pub invariant-put_joined-loop-assert : goal.invariant-put_joined-loop-assert
invariant-put_joined-loop-assert l = l.text.items ++ joined_text l.names l.between l.word l.least (formula_list (map formula (drop l.assert-index l.all))) ≡ l.initial.text.items ++ joined_text l.names [] l.word l.least (formula_list (map formula l.all))
