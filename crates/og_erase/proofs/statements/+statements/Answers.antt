use Rattle.std.proofs.Common.{◌≡◌, length, map, arith, sym, ap, ◌∙◌, subst}
use Rattle.og_parse.specs.Trees as tree
use Rattle.og_parse.specs.TreeOf as raw
use Rattle.og_typed.specs.declared.statement.Seq.{out-Seq}
use Rattle.og_typed.specs.Plain.{item_of, noted, sequence}
use Rattle.og_typed.specs.Rule.{IsUsableSequence}
use Rattle.og_typed.specs.Lists.{sequence_list}
use Rattle.og_typed.proofs.Lists.{sequence_out}
use Rattle.og_erase.specs.Collected as collected
use Rattle.og_erase.proofs.Trees.{await_made, made_of, item_here, item_made, item_turn, items_end, seq_made}
use Rattle.og_erase.proofs.statements.+statements.Goals as goal

pub sequence-loop-item-init : goal.sequence-loop-item-init
sequence-loop-item-init t c =
    let names = c.args.names.now in
    let q = c.args.seq.now in
    let last = noted (out-Seq q).last in
    let all = c.deref-item-items.result.now in
    let whole : sequence_list (map item_of all) last ≡ sequence q = ap (λ l. sequence_list (map item_of l) last) c.deref-item-items.ensures.value ∙ sym (sequence_out q) in
    record {
      usable = subst (IsUsableSequence (length names)) (sym whole) c.requires;
      made = ap (λ l. made_of names l all last) c.new-items.ensures.items ∙ ap (collected.sequence names) whole;
    }

pub sequence-loop-item-preserved : goal.sequence-loop-item-preserved
sequence-loop-item-preserved t c =
    let names = c.args.names.now in
    let last = noted (out-Seq c.args.seq.now).last in
    let all = c.deref-item-items.result.now in
    let i = c.loop-item.item-index in
    let x = c.item-item.result in
    record {
      usable = (item_here (length names) last all i x c.loop-item-test.true c.item-item.is c.loop-item.invariant.usable).2;
      made =
          item_turn names last c.loop-item.items.items c.push.new.self.items _ all i x c.loop-item-test.true c.item-item.is c.in_ok-push.ensures.items
          (item_made names x c.in_ok-before.before c.in_ok-stmt.stmt c.in_ok-before.ensures c.in_ok-stmt.ensures)
          ∙ c.loop-item.invariant.made;
    }

pub sequence-returns : goal.sequence-returns
sequence-returns t c =
    let names = c.args.names.now in
    let last = noted (out-Seq c.args.seq.now).last in
    seq_made c.loop-item.items c.in_ok-last.last
    ∙ ap (λ n. raw.items_then (map raw.item_of c.loop-item.items.items) (tree.finish n)) c.in_ok-last.ensures
    ∙ items_end names last c.loop-item.items.items c.deref-item-items.result.now c.loop-item.item-index _ (omega arith) c.loop-item.invariant.made

pub statement-returns-in_ok-elements-in-Await : goal.statement-returns-in_ok-elements-in-Await
statement-returns-in_ok-elements-in-Await t c =
    await_made c.args.names.now c.args.stmt.now c.in-Await.guard c.in-Await.body c.deref-in-Await.result.now c.in_ok-guard-in-Await.guard c.in_ok-elements-in-Await.field-0 c.in-Await.is c.deref-in-Await.ensures.value c.in_ok-guard-in-Await.ensures c.in_ok-elements-in-Await.ensures
