use Rattle.std.proofs.Common.{◌≡◌, drop, map}
use Rattle.og_parse.specs.Trees.{finish}
use Rattle.og_parse.specs.TreeOf.{note_of, item_of, items_then}
use Rattle.og_print.specs.Plain.{plain_seq}
use Rattle.og_print.proofs.same_statements.+sequences.Given as goal

abbrev pub invariant-same_items-loop-i : goal.invariant-same_items-loop-i
invariant-same_items-loop-i l =
    plain_seq (items_then (map item_of (drop l.i l.one)) (finish (note_of l.last))) ≡ plain_seq (items_then (map item_of (drop l.i l.other)) (finish (note_of l.other_last)))
    → plain_seq (items_then (map item_of l.one) (finish (note_of l.last))) ≡ plain_seq (items_then (map item_of l.other) (finish (note_of l.other_last)))
