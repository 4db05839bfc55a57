use Rattle.std.proofs.Common.{◌≡◌, ◌++◌, drop}
use Rattle.og_print.specs.Print.{written, later_auxes_in}
use Rattle.og_print.proofs.outline.put_auxes.Given as goal

abbrev pub invariant-loop-aux : goal.invariant-loop-aux
invariant-loop-aux l = l.text.items ++ later_auxes_in written (drop l.aux-index l.later) ≡ l.initial.text.items ++ later_auxes_in written l.later
