use Rattle.std.proofs.Common.{◌≡◌, drop}
use Rattle.std.specs.Prelude.{not, find}
use Rattle.og_report_conditions.specs.Chosen.{is_number}
use Rattle.og_report_conditions.proofs.choosing.first_other.Given as goal

abbrev pub invariant-loop-number : goal.invariant-loop-number
invariant-loop-number l = find (λ m. not (is_number l.count m)) (drop l.number-index l.numbers) ≡ find (λ m. not (is_number l.count m)) l.numbers
