use Rattle.std.proofs.Common.{◌≡◌, map, drop}
use Rattle.og_parse.specs.Trees.{finish}
use Rattle.og_parse.specs.TreeOf.{items_then, note_of, seq_of}
use Rattle.og_parse.specs.TreeOf as raw
use Rattle.og_parse.specs.declared.raw.RawStmt.TheViews.{out-RawSeq}
use Rattle.og_typed.specs.Plain.{item_of}
use Rattle.og_typed.specs.Resolved as meaning
use Rattle.og_typed.specs.Scoped.{scope_of}
use Rattle.og_typed.proofs.Following.{after_items}
use Rattle.og_typed.proofs.sequences.+sequences.Given as goal

abbrev pub invariant-sequence-loop-item : goal.invariant-sequence-loop-item
invariant-sequence-loop-item l =
    after_items (map item_of l.items.items) (meaning.sequence (scope_of l.scope) (items_then (map raw.item_of (drop l.item-index l.item-items)) (finish (note_of (out-RawSeq l.raw).last))))
    ≡ meaning.sequence (scope_of l.scope) (seq_of l.raw)
