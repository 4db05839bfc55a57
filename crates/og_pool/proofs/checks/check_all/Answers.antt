use Rattle.std.proofs.Common.{arith}
use Rattle.og_pool.proofs.Statuses.{statuses_of}
use Rattle.og_pool.proofs.checks.check_all.Goals as goal

pub returns-clause-statuses : goal.returns-clause-statuses
returns-clause-statuses g c =
    let each = c.in_ok-statuses.ensures.answers in
    let len = each.0 in
    (omega (arith, len, c.in_ok-statuses.statuses.ok.0), statuses_of c.args.conditions.now c.args.certs.now c.in_ok-statuses.statuses.items each)
