use Rattle.std.proofs.Common.{◌<◌, length, arith}
use Rattle.og_facts.proofs.Items.{split_pushed, lists_end}
use Rattle.og_facts.proofs.hypotheses.add_lists.Goals as goal

pub returns : goal.returns
returns c =
    let long : 1 < length c.loop-parts.all.items = omega arith in
    split_pushed c.args.facts.now.items c.push-2.new.self.items c.loop-parts.all _ c.in_ok-push-2.ensures.items long
    (lists_end c.loop-parts.all.items c.args.lists.now c.loop-parts.parts-index (omega arith) c.loop-parts.invariant.same)
