use Rattle.std.proofs.Common.{◌≡◌, ◌+◌, ◌≤◌, vec_len, vec_capacity}
use Rattle.std.specs.List.{AllZip}
use Rattle.std.specs.Vec.Iter.{into_iter_len}
use Rattle.og_pool.proofs.threads.start_all.Given as goal

abbrev pub invariant-loop-part : goal.invariant-loop-part
invariant-loop-part g l = record {
  started : AllZip (λ p h. (h.promise.job.value ≡ l.job) × (h.promise.part.value ≡ p)) l.yielded l.handles.items;
  room : vec_len l.handles + into_iter_len l.part-iterator ≤ vec_capacity l.handles;
}
