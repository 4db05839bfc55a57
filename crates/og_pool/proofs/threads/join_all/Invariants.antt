use Rattle.std.proofs.Common.{◌≡◌, ◌⊎◌, OnOk, IfErr}
use Rattle.std.specs.List.{AllZip}
use Rattle.og_pool.specs.declared.thread_fault.ThreadFault.TheVariants.{Memory}
use Rattle.og_pool.proofs.threads.join_all.Given as goal

abbrev pub invariant-loop-handle : goal.invariant-loop-handle
invariant-loop-handle g l = record {
  gains : OnOk l.outcome (AllZip (λ h x. g.J.Job.owes h.promise.job.value h.promise.part.value x) l.yielded l.gains.items);
  fault : IfErr l.outcome (λ e. (e ≡ Memory) ⊎ g.J.Job.fails e);
}
