use Rattle.std.proofs.Common.{◌≤◌}
use Rattle.og_cert_read.proofs.line.most_words.Given as goal

abbrev pub invariant-loop-b : goal.invariant-loop-b
invariant-loop-b l = l.spaces ≤ l.b-index
