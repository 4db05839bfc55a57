use Rattle.std.proofs.Common.{◌≤◌, ◌*◌, ◌^◌, arith}
use Rattle.og_typed.proofs.Within.{within_more}
use Rattle.og_typed.proofs.sums.sum.Goals as goal

pub add_term-requires : goal.add_term-requires
add_term-requires c =
    let few : c.loop-term.term-index * 2 ^ 64 ≤ 2 ^ 124 = omega arith in
    within_more (c.loop-term.term-index * 2 ^ 64) (2 ^ 124) c.loop-term.total few c.loop-term.invariant.small

pub returns-clause-small : goal.returns-clause-small
returns-clause-small c =
    let few : c.loop-term.term-index * 2 ^ 64 ≤ 2 ^ 124 = omega arith in
    within_more (c.loop-term.term-index * 2 ^ 64) (2 ^ 124) c.loop-term.total few c.loop-term.invariant.small
