use Rattle.std.proofs.Common.{◌≡◌, ◌+◌, ◌-◌, ◌<◌, subst, arith}
use Rattle.og_pool.specs.TaskAnswers.{HasAnswer}
use Rattle.og_pool.proofs.workers.answers.Goals as goal

pub in_order-requires-clause-all : goal.in_order-requires-clause-all
in_order-requires-clause-all g c κs within = λ n some less.
    let done = c.in_ok-drawer.ensures.done.2 in
    let count = c.in_ok-draws.ensures.draws.0 in
    let below : n - 1 < c.in_ok-draws.draws.count = omega (arith, count) in
    let once = c.close.ensures done.0 (n - 1) below in
    let back : n - 1 + 1 ≡ n = omega arith in
    subst (HasAnswer c.in_ok-drawer.answered.items) back (done.2 (n - 1) below (omega (arith, once)))
