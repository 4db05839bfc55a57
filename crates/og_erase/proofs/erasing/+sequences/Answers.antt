use Rattle.std.proofs.Common.{◌≡◌, map, sym, ap, ◌∙◌, refl, arith}
use Rattle.og_typed.specs.declared.statement.Seq.{out-Seq}
use Rattle.og_typed.specs.declared.statement.Stmt.TheViews.{out-roll-Seq}
use Rattle.og_typed.specs.Erase.{erase_seq}
use Rattle.og_typed.specs.Plain.{noted, item_of}
use Rattle.og_typed.specs.Lists.{sequence_list}
use Rattle.og_typed.proofs.Lists.{sequence_out}
use Rattle.og_erase.proofs.Turns.{erased_items, erase_list, finished}
use Rattle.og_erase.proofs.erasing.+sequences.Goals as goal

pub sequence-returns : goal.sequence-returns
sequence-returns t c =
    let n = c.args.vars in
    let q = c.args.seq.now in
    let all = c.deref-item-items.result.now in
    let made : map item_of c.loop-item.items.items ≡ erased_items n (map item_of all) =
    finished item_of (λ l. erased_items n (map item_of l)) c.loop-item.items.items all c.loop-item.item-index _ (omega arith) refl c.loop-item.invariant in
    sequence_out _
    ∙ ap (λ s. sequence_list (map item_of s.items.items) (noted s.last)) (out-roll-Seq (record { items = c.loop-item.items; last = c.blank_note-last.result }))
    ∙ ap (λ l. sequence_list l (noted c.blank_note-last.result)) made
    ∙ ap (sequence_list (erased_items n (map item_of all))) c.blank_note-last.ensures
    ∙ sym (erase_list n (map item_of all) (noted (out-Seq q).last))
    ∙ ap (λ l. erase_seq n (sequence_list (map item_of l) (noted (out-Seq q).last))) c.deref-item-items.ensures.value
    ∙ ap (erase_seq n) (sym (sequence_out q))
