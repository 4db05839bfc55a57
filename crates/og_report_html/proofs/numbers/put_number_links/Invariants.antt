use Rattle.std.proofs.Common.{◌≡◌, ◌+◌, ◌++◌, drop}
use Rattle.og_report_html.specs.Numbers.{number_links}
use Rattle.og_report_html.proofs.numbers.put_number_links.Given as goal

abbrev pub invariant-loop-index : goal.invariant-loop-index
invariant-loop-index l = l.text.items ++ number_links l.finding (l.index + 1) (drop l.index l.diagnoses) ≡ l.initial.text.items ++ number_links l.finding 1 l.diagnoses
