use Rattle.std.proofs.Common.{◌≡◌, ◌++◌, drop}
use Rattle.og_report_text.specs.Seen.{formulas_of}
use Rattle.og_report_prove.specs.Numbers.{false_numbers}
use Rattle.og_report_prove.proofs.diagnosis.false_numbers.Given as goal

abbrev pub invariant-loop-i : goal.invariant-loop-i
invariant-loop-i l =
    l.numbers.items ++ false_numbers l.values l.i (formulas_of (drop l.i l.all.items)) ≡ false_numbers l.values 0 (formulas_of l.all.items)
