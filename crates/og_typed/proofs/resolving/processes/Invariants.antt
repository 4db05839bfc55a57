use Rattle.std.proofs.Common.{◌≡◌, ◌+◌, map, drop, vec_len}
use Rattle.og_parse.specs.TreeOf.{seq_of, seqs_of}
use Rattle.og_typed.specs.Plain.{sequence}
use Rattle.og_typed.specs.declared.fault.TypeFault.TheVariants as faults
use Rattle.og_typed.specs.Resolved as meaning
use Rattle.og_typed.specs.Scoped.{scope_of}
use Rattle.og_typed.proofs.Counting.{front}
use Rattle.og_typed.proofs.resolving.processes.Given as goal

abbrev pub invariant-loop-process : goal.invariant-loop-process
invariant-loop-process l = record {
  so_far : front (map sequence l.processes.items) (meaning.counted 256 (λ seq. faults.TooManyProcesses (meaning.place_of seq)) (meaning.sequence (scope_of l.scope)) (l.process-index + 1) (map seq_of (drop l.process-index l.raw.others.items))) ≡ meaning.processes (scope_of l.scope) (seqs_of l.raw);
  count : vec_len l.processes ≡ l.process-index + 1;
}
