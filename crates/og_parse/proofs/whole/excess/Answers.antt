use Rattle.std.proofs.Common.{◌≡◌, ◌+◌, ◌≤◌, ◌&&◌, sym, arith}
use Rattle.og_parse.specs.Limits.{begins_statement}
use Rattle.og_parse.proofs.Counts.{one_if, so_far_next, excess_found}
use Rattle.og_parse.proofs.whole.excess.Goals as goal
use Rattle.og_parse.proofs.whole.excess.Goals.{then-is_counted+else-count-limit, else-is_counted}

pub returns-then-count-limit : goal.returns-then-count-limit
returns-then-count-limit c =
    excess_found c.args.limit c.args.tokens.now c.loop-i.i c.index-tokens-i.result c.loop-i.count c.loop-i.closed c.loop-i-test.true c.index-tokens-i.is c.loop-i.invariant c.if-count-limit.true (sym c.if-is_counted.ensures)

pub loop-i-preserved : goal.loop-i-preserved
loop-i-preserved c =
    let next : c.if-is_counted.count ≡ c.loop-i.count + one_if (c.loop-i.closed && begins_statement c.index-tokens-i.result.kind) = elim c.if-is_counted.branch [
      | then-is_counted+else-count-limit w ↦ rw (sym w.if-is_counted.ensures) w.count-is
      | else-is_counted w ↦ rw (sym w.if-is_counted.ensures) (omega (arith, w.count-is))
    ] in
    let few : c.if-is_counted.count ≤ c.args.limit = elim c.if-is_counted.branch [
      | then-is_counted+else-count-limit w ↦ omega (arith, c.loop-i.invariant.few)
      | else-is_counted w ↦ omega (arith, c.loop-i.invariant.few)
    ] in
    rw c.closes_note-closed.ensures (so_far_next c.args.limit c.args.tokens.now c.loop-i.i c.index-tokens-i.result c.loop-i.count c.if-is_counted.count c.loop-i.closed c.loop-i-test.true c.index-tokens-i.is c.loop-i.invariant next few)
