use Rattle.std.proofs.Common.{◌≡◌, ◌++◌, [], drop}
use Rattle.og_report_findings.specs.Hints.{numbers_text}
use Rattle.og_report_findings.proofs.hints.put_numbers.Given as goal

abbrev pub invariant-loop-number : goal.invariant-loop-number
invariant-loop-number l = l.text.items ++ numbers_text l.between (drop l.number-index l.numbers) ≡ l.initial.text.items ++ numbers_text [] l.numbers
