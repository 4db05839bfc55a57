use Rattle.std.proofs.Common.{◌≡◌, drop, map}
use Rattle.og_parse.specs.TreeOf.{element_of}
use Rattle.og_print.specs.Plain.{placed, plain_basic}
use Rattle.og_print.proofs.same_statements.same_elements.Given as goal

abbrev pub invariant-loop-i : goal.invariant-loop-i
invariant-loop-i l =
    map (placed plain_basic) (map element_of (drop l.i l.one)) ≡ map (placed plain_basic) (map element_of (drop l.i l.other))
    → map (placed plain_basic) (map element_of l.one) ≡ map (placed plain_basic) (map element_of l.other)
