use Rattle.std.proofs.Common.{◌≡◌, length, rules, arith, refl, subst₂}
use Rattle.og_typed.specs.declared.statement.Seq.{out-Seq}
use Rattle.og_completion.specs.Completes.{OneByOne}
use Rattle.og_completion.proofs.Trees.{ItemCompletes, each_turn, each_whole, sequence_completes}
use Rattle.og_completion.proofs.statements.+statements.Goals as goal

pub completes_sequence-loop-i-preserved : goal.completes_sequence-loop-i-preserved
completes_sequence-loop-i-preserved t c =
    let items = c.as_slice-items.result.now in
    let old_items = c.as_slice-old_items.result.now in
    let long : length items ≡ length old_items = search rules in
    each_turn (ItemCompletes c.args.count) items old_items c.loop-i.i c.index-items-i.result c.index-old_items-i.result c.loop-i-test.true long c.index-items-i.is c.index-old_items-i.is (c.if-not-completes_item.ensures refl) c.loop-i.invariant

pub completes_sequence-returns : goal.completes_sequence-returns
completes_sequence-returns t c = λ yes.
    let new = c.args.new.now in
    let old = c.args.old.now in
    let items = c.as_slice-items.result.now in
    let old_items = c.as_slice-old_items.result.now in
    let long : length items ≡ length old_items = search rules in
    let found = each_whole (ItemCompletes c.args.count) items old_items c.loop-i.i (omega arith) long c.loop-i.invariant in
    let all : OneByOne (ItemCompletes c.args.count) (out-Seq new).items.items (out-Seq old).items.items = subst₂ (OneByOne (ItemCompletes c.args.count)) c.as_slice-items.ensures.value c.as_slice-old_items.ensures.value found in
    sequence_completes c.args.count new old all (c.is_stronger.ensures yes)
