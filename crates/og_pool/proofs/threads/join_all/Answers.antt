use Rattle.std.proofs.Common.{sym, ◌∙◌}
use Rattle.og_pool.proofs.Zips.{one_more_if}
use Rattle.og_pool.proofs.Faults.{fault_of_gain}
use Rattle.og_pool.proofs.threads.join_all.Goals as goal

pub loop-handle-preserved-then-is_ok : goal.loop-handle-preserved-then-is_ok
loop-handle-preserved-then-is_ok g c =
    let i = c.loop-handle.invariant in
    record {
      gains = one_more_if _ c.loop-handle.yielded c.loop-handle.gains.items c.add-outcome.new.gains.items c.in-Some.handle c.join-gain.result c.loop-handle.outcome c.add-outcome.result
          (sym c.is_ok.ensures.value ∙ c.if-is_ok.true) i.gains c.join-gain.ensures.0 c.add-outcome.ensures.gain;
      fault = fault_of_gain _ c.join-gain.result c.add-outcome.result c.join-gain.ensures.1 c.add-outcome.ensures.fault;
    }
