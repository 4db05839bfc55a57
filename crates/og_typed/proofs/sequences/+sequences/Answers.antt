use Rattle.std.proofs.Common.{map, sym, ap, ◌∙◌, refl, arith}
use Rattle.std.specs.Prelude.{Ok}
use Rattle.std.proofs.lemmas.Result.{err_from_is_err_and}
use Rattle.og_parse.specs.declared.raw.RawStmt.TheViews.{out-RawSeq}
use Rattle.og_parse.specs.Trees as tree
use Rattle.og_parse.specs.TreeOf as raw
use Rattle.og_typed.specs.declared.statement.Stmt.TheViews.{out-roll-Seq}
use Rattle.og_typed.specs.Plain.{noted, item_of}
use Rattle.og_typed.specs.Plain as plain
use Rattle.og_typed.specs.Syntax.{Noted, Last}
use Rattle.og_typed.specs.Lists.{sequence_list}
use Rattle.og_typed.specs.Resolved as meaning
use Rattle.og_typed.specs.Resolved.{Checked, ◌>>=◌}
use Rattle.og_typed.specs.Scoped.{scope_of}
use Rattle.og_typed.proofs.Lists.{sequence_out}
use Rattle.og_typed.proofs.RawTrees.{item_tree}
use Rattle.og_typed.proofs.Behind.{fails_from}
use Rattle.og_typed.proofs.Following.{after_items, after_fault, after_all, item_turn, note_stops, statement_stops, items_end}
use Rattle.og_typed.proofs.sequences.+sequences.Goals as goal

pub sequence-returns-in_err-before : goal.sequence-returns-in_err-before
sequence-returns-in_err-before t c =
    let scope = scope_of c.args.scope.now in
    let last = tree.finish (raw.note_of (out-RawSeq c.args.raw.now).last) in
    let x = c.item-item.result in
    let p = err_from_is_err_and c.from_residual.result c.from_residual.ensures.1 in
    rw p.1 (fails_from plain.sequence c.in_err-before.field-0.0 p.0 (meaning.note scope meaning.Free (raw.note_of x.before)) _ c.in_err-before.ensures p.2
    (λ fault e. note_stops scope last (map item_of c.loop-item.items.items) c.deref-item-items.result.now c.loop-item.item-index x _ _ fault c.loop-item-test.true c.item-item.is (item_tree x) c.loop-item.invariant e))

pub sequence-returns-in_err-stmt : goal.sequence-returns-in_err-stmt
sequence-returns-in_err-stmt t c =
    let scope = scope_of c.args.scope.now in
    let last = tree.finish (raw.note_of (out-RawSeq c.args.raw.now).last) in
    let x = c.item-item.result in
    let p = err_from_is_err_and c.from_residual-in_err-stmt.result c.from_residual-in_err-stmt.ensures.1 in
    rw p.1 (fails_from plain.sequence c.in_err-stmt.field-0.0 p.0 (meaning.statement scope (raw.stmt_of x.stmt)) _ c.in_err-stmt.ensures p.2
    (λ fault e. statement_stops scope last (map item_of c.loop-item.items.items) c.deref-item-items.result.now c.loop-item.item-index x _ _ _ fault c.loop-item-test.true c.item-item.is (item_tree x) c.loop-item.invariant c.in_ok-before.ensures e))

pub sequence-loop-item-preserved : goal.sequence-loop-item-preserved
sequence-loop-item-preserved t c =
    let scope = scope_of c.args.scope.now in
    let last = tree.finish (raw.note_of (out-RawSeq c.args.raw.now).last) in
    let x = c.item-item.result in
    item_turn scope last c.loop-item.items.items c.push.new.self.items _ c.deref-item-items.result.now c.loop-item.item-index x _ c.loop-item-test.true c.item-item.is c.in_ok-push.ensures.items (item_tree x) c.in_ok-before.ensures c.in_ok-stmt.ensures refl
    ∙ c.loop-item.invariant

pub sequence-returns-in_err-last : goal.sequence-returns-in_err-last
sequence-returns-in_err-last t c =
    let scope = scope_of c.args.scope.now in
    let note = raw.note_of (out-RawSeq c.args.raw.now).last in
    let items = map item_of c.loop-item.items.items in
    let p = err_from_is_err_and c.from_residual-in_err-last.result c.from_residual-in_err-last.ensures.1 in
    rw p.1 (fails_from plain.sequence c.in_err-last.field-0.0 p.0 (meaning.note scope meaning.Free note) _ c.in_err-last.ensures p.2
    (λ fault e. items_end scope (tree.finish note) items c.deref-item-items.result.now c.loop-item.item-index _ (omega arith) c.loop-item.invariant
    ∙ ap (λ (a : Checked Noted). after_items items (a >>= λ b. Ok (Last b))) e ∙ after_fault items fault))

pub sequence-returns : goal.sequence-returns
sequence-returns t c =
    let scope = scope_of c.args.scope.now in
    let note = raw.note_of (out-RawSeq c.args.raw.now).last in
    let items = map item_of c.loop-item.items.items in
    let last = noted c.in_ok-last.last in
    items_end scope (tree.finish note) items c.deref-item-items.result.now c.loop-item.item-index _ (omega arith) c.loop-item.invariant
    ∙ ap (λ (a : Checked Noted). after_items items (a >>= λ b. Ok (Last b))) c.in_ok-last.ensures
    ∙ after_all items last
    ∙ ap Ok (sym (sequence_out _ ∙ ap (λ q. sequence_list (map item_of q.items.items) (noted q.last)) (out-roll-Seq (record { items = c.loop-item.items; last = c.in_ok-last.last }))))
