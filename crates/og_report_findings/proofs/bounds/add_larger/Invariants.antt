use Rattle.std.proofs.Common.{◌≡◌, ◌++◌, drop, filter, int_lt}
use Rattle.og_report_findings.proofs.bounds.add_larger.Given as goal

abbrev pub invariant-loop-n : goal.invariant-loop-n
invariant-loop-n l = l.list.items ++ filter (λ n. int_lt l.number n) (drop l.n-index l.numbers) ≡ l.initial.list.items ++ filter (λ n. int_lt l.number n) l.numbers
