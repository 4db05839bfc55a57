use Rattle.std.proofs.Common.{◌≡◌, vec_len}
use Rattle.og_find.proofs.finding.values_of.Given as goal

abbrev pub invariant-loop-var : goal.invariant-loop-var
invariant-loop-var l = vec_len l.values ≡ l.var
