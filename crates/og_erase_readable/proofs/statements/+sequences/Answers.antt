use Rattle.std.proofs.Common.{map, arith, ap, ◌∙◌}
use Rattle.og_parse.specs.Trees as tree
use Rattle.og_parse.specs.TreeOf as raw
use Rattle.og_erase_readable.proofs.Trees.{item_made, item_turn, items_end, seq_made}
use Rattle.og_erase_readable.proofs.statements.+sequences.Goals as goal

pub items-loop-item-preserved : goal.items-loop-item-preserved
items-loop-item-preserved t c =
    item_turn (raw.note_of c.args.last.now) c.loop-item.items.items c.push.new.self.items _ c.args.all.now c.loop-item.item-index c.item-item.result c.loop-item-test.true c.item-item.is c.in_ok-push.ensures.items
    (item_made c.item-item.result c.in_ok-before.before c.in_ok-stmt.stmt c.in_ok-before.ensures c.in_ok-stmt.ensures)
    ∙ c.loop-item.invariant

pub items-returns : goal.items-returns
items-returns t c =
    seq_made c.loop-item.items c.in_ok-last.last
    ∙ ap (λ n. raw.items_then (map raw.item_of c.loop-item.items.items) (tree.finish n)) c.in_ok-last.ensures
    ∙ items_end (raw.note_of c.args.last.now) c.loop-item.items.items c.args.all.now c.loop-item.item-index _ (omega arith) c.loop-item.invariant
