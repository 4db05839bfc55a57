use Rattle.std.proofs.Common.{◌≡◌, ◌++◌, drop}
use Rattle.og_print.specs.Print.{written, later_names_in}
use Rattle.og_print.proofs.outline.put_vars.Given as goal

abbrev pub invariant-loop-name : goal.invariant-loop-name
invariant-loop-name l = l.text.items ++ later_names_in written (drop l.name-index l.later) ≡ l.initial.text.items ++ later_names_in written l.later
