use Rattle.std.proofs.Common.{◌≡◌, drop, map}
use Rattle.og_parse.specs.Trees.{finish}
use Rattle.og_parse.specs.TreeOf.{note_of, item_of, items_then}
use Rattle.og_erase_readable.specs.Readable.{readable_seq}
use Rattle.og_erase_readable.proofs.statements.+sequences.Given as goal

abbrev pub invariant-items-loop-item : goal.invariant-items-loop-item
invariant-items-loop-item l =
    items_then (map item_of l.items.items) (readable_seq (items_then (map item_of (drop l.item-index l.all)) (finish (note_of l.last))))
    ≡ readable_seq (items_then (map item_of l.all) (finish (note_of l.last)))
