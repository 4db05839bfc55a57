use Rattle.std.proofs.Common.{subst}
use Rattle.og_pool.proofs.Zips.{AllZip-through, one_more}
use Rattle.og_pool.proofs.threads.fn.in_threads.scope.Goals as goal

pub returns : goal.returns
returns g c =
    let owes = g.J.Job.owes in
    let each = AllZip-through _ _ (owes c.captures.job.now)
    (λ part handle gain same owed. subst (λ j. owes j part gain) same.0 (subst (λ p. owes handle.promise.job.value p gain) same.1 owed))
    c.captures.parts.items c.start_all.new.handles.items c.join_all-2.new.gains.items c.in_default.ensures.started c.in_ok-join_all.ensures.gains in (
      one_more (owes c.captures.job.now) c.captures.parts.items c.join_all-2.new.gains.items c.add.new.gains.items c.captures.mine c.work-last.result each c.work-last.ensures.gain c.in_ok-add.ensures.gain,
      tt,
    )
