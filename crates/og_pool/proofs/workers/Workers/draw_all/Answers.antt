use Rattle.std.proofs.Common.{◌≡◌, vec_len, subst, arith}
use Rattle.og_pool.specs.TaskAnswers.{PartDone}
use Rattle.og_pool.proofs.TaskAnswers.{each_gain}
use Rattle.og_pool.proofs.workers.Workers.draw_all.Goals as goal

pub together-requires-clause-some : goal.together-requires-clause-some
together-requires-clause-some g c κs within =
    let gains = each_gain _ c.args.drawers.items c.in_ok-gains.gains.items c.in_ok-gains.ensures.gains in
    let len = gains.0 in omega (arith, c.requires.some, c.args.drawers.ok.0, c.in_ok-gains.gains.ok.0)

pub together-requires-clause-each : goal.together-requires-clause-each
together-requires-clause-each g c κs within = (each_gain _ c.args.drawers.items c.in_ok-gains.gains.items c.in_ok-gains.ensures.gains).1

pub returns-clause-done : goal.returns-clause-done
returns-clause-done g c =
    let gains = each_gain _ c.args.drawers.items c.in_ok-gains.gains.items c.in_ok-gains.ensures.gains in
    let len = gains.0 in
    let same : vec_len c.in_ok-gains.gains ≡ vec_len c.args.drawers = omega (arith, c.args.drawers.ok.0, c.in_ok-gains.gains.ok.0) in
    let may = g.N.Numbered.may_answer c.args.self.now.tasks.now in
    subst (λ n. PartDone c.args.self.now.draws.now n may c.in_ok-together.field-0.0 c.in_ok-together.field-0.1.items) same c.in_ok-together.ensures
