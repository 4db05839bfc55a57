use Rattle.std.proofs.Common.{◌≡◌, ◌++◌, drop, map}
use Rattle.og_parse.specs.TreeOf.{element_of}
use Rattle.og_print.specs.Print.{written, later_elements_in}
use Rattle.og_print.proofs.statements.put_body.Given as goal

abbrev pub invariant-loop-element : goal.invariant-loop-element
invariant-loop-element l = l.text.items ++ later_elements_in written (map element_of (drop l.element-index l.later)) ≡ l.initial.text.items ++ later_elements_in written (map element_of l.later)
