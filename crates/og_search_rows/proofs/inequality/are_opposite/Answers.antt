use Rattle.std.proofs.Common.{◌<◌, length, arith}
use Rattle.og_search_rows.proofs.Sums.{opposite_turn}
use Rattle.og_search_rows.proofs.Merges.{no_term}
use Rattle.og_search_rows.proofs.inequality.are_opposite.Goals as goal

pub loop-i-preserved : goal.loop-i-preserved
loop-i-preserved c = λ s.
    let i = c.loop-i.i in
    let within : i < length c.args.a.now = omega arith in
    let inside : i < length c.args.b.now = omega arith in
    opposite_turn c.args.a.now c.args.b.now s i no_term no_term _ within inside (c.cancels.ensures.variable c.if-not-cancels.false) (c.cancels.ensures.sum c.if-not-cancels.false)
    (c.loop-i.invariant s)
