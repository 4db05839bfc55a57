use Rattle.std.proofs.Common.{◌≡◌, drop, map}
use Rattle.og_print.specs.Plain.{plain_aux}
use Rattle.og_print.proofs.same_outlines.same_auxiliaries.Given as goal

abbrev pub invariant-loop-i : goal.invariant-loop-i
invariant-loop-i l =
    map plain_aux (drop l.i l.one) ≡ map plain_aux (drop l.i l.other)
    → map plain_aux l.one ≡ map plain_aux l.other
