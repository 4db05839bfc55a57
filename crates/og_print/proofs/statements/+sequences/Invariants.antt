use Rattle.std.proofs.Common.{◌≡◌, ◌++◌, drop, map}
use Rattle.og_parse.specs.Trees.{finish}
use Rattle.og_parse.specs.TreeOf.{note_of, item_of, items_then}
use Rattle.og_print.specs.Print.{written, seq_in}
use Rattle.og_print.proofs.statements.+sequences.Given as goal

abbrev pub invariant-put_items-loop-i : goal.invariant-put_items-loop-i
invariant-put_items-loop-i l =
    l.text.items ++ seq_in written l.notes l.indent (items_then (map item_of (drop l.i l.items)) (finish (note_of l.last)))
    ≡ l.initial.text.items ++ seq_in written l.notes l.indent (items_then (map item_of l.items) (finish (note_of l.last)))
