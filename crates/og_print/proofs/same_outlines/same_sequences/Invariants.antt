use Rattle.std.proofs.Common.{◌≡◌, drop, map}
use Rattle.og_parse.specs.TreeOf.{seq_of}
use Rattle.og_print.specs.Plain.{plain_seq}
use Rattle.og_print.proofs.same_outlines.same_sequences.Given as goal

abbrev pub invariant-loop-i : goal.invariant-loop-i
invariant-loop-i l =
    map plain_seq (map seq_of (drop l.i l.one)) ≡ map plain_seq (map seq_of (drop l.i l.other))
    → map plain_seq (map seq_of l.one) ≡ map plain_seq (map seq_of l.other)
