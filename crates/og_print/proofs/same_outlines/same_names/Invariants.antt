use Rattle.std.proofs.Common.{◌≡◌, drop, map}
use Rattle.og_print.specs.Plain.{plain_name}
use Rattle.og_print.proofs.same_outlines.same_names.Given as goal

abbrev pub invariant-loop-i : goal.invariant-loop-i
invariant-loop-i l =
    map plain_name (drop l.i l.one) ≡ map plain_name (drop l.i l.other)
    → map plain_name l.one ≡ map plain_name l.other
