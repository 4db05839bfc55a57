use Rattle.std.proofs.Common.{◌≡◌, ◌++◌, [], drop, map}
use Rattle.og_typed.specs.Plain.{simple}
use Rattle.og_report_conditions.specs.Triples.{simples_text}
use Rattle.og_report_conditions.proofs.statements.put_simples.Given as goal

abbrev pub invariant-loop-basic : goal.invariant-loop-basic
invariant-loop-basic l = l.text.items ++ simples_text l.names l.between (map simple (drop l.basic-index l.body)) ≡ l.initial.text.items ++ simples_text l.names [] (map simple l.body)
