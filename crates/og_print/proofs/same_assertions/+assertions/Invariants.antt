use Rattle.std.proofs.Common.{◌≡◌, drop, map}
use Rattle.og_parse.specs.Trees.{listed}
use Rattle.og_parse.specs.TreeOf.{assertion_of}
use Rattle.og_print.specs.Plain.{plain_assertions}
use Rattle.og_print.proofs.same_assertions.+assertions.Given as goal

abbrev pub invariant-same_assertions-loop-i : goal.invariant-same_assertions-loop-i
invariant-same_assertions-loop-i l =
    plain_assertions (listed (map assertion_of (drop l.i l.one))) ≡ plain_assertions (listed (map assertion_of (drop l.i l.other)))
    → plain_assertions (listed (map assertion_of l.one)) ≡ plain_assertions (listed (map assertion_of l.other))
