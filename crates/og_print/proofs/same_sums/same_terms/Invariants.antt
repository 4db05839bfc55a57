use Rattle.std.proofs.Common.{◌≡◌, drop, map}
use Rattle.og_print.specs.Plain.{plain_term}
use Rattle.og_print.proofs.same_sums.same_terms.Given as goal

abbrev pub invariant-loop-i : goal.invariant-loop-i
invariant-loop-i l =
    map plain_term (drop l.i l.one) ≡ map plain_term (drop l.i l.other)
    → map plain_term l.one ≡ map plain_term l.other
