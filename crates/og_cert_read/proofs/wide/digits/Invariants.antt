use Rattle.std.proofs.Common.{◌≡◌, ◌≤◌, drop}
use Rattle.og_cert_read.specs.Words.{read_from}
use Rattle.og_cert_read.proofs.wide.digits.Given as goal

abbrev pub invariant-loop-b : goal.invariant-loop-b
invariant-loop-b l = record {
  so_far : read_from l.most l.value (drop l.b-index l.word) ≡ read_from l.most 0 l.word;
  within : l.value ≤ l.most;
}
