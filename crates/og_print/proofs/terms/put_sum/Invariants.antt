use Rattle.std.proofs.Common.{◌≡◌, ◌++◌, drop}
use Rattle.og_print.specs.Print.{written, later_terms_in}
use Rattle.og_print.proofs.terms.put_sum.Given as goal

abbrev pub invariant-loop-term : goal.invariant-loop-term
invariant-loop-term l = l.text.items ++ later_terms_in written (drop l.term-index l.later) ≡ l.initial.text.items ++ later_terms_in written l.later
