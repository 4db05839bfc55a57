use Rattle.std.proofs.Common.{arith}
use Rattle.std.proofs.lemmas.Int.{ints}
use Rattle.og_template_expand.specs.Ranges.{numbers_of}
use Rattle.og_template_expand.specs.Scoped.{range_of}
use Rattle.og_template_expand.proofs.Counted.{counted_turn}
use Rattle.og_template_expand.proofs.binders.numbers.Goals as goal

pub loop-more-preserved : goal.loop-more-preserved
loop-more-preserved c =
    counted_turn c.loop-more.all.items c.push.new.self.items c.args.range.low c.args.range.count c.loop-more.more _ (numbers_of (range_of c.args.range)) (omega arith) c.in_ok-push.ensures.items (omega (arith, ints)) c.loop-more.invariant
