use Rattle.std.proofs.Common.{◌≤◌, vec_len}
use Rattle.og_find_all.proofs.groups.grouped.Given as goal

abbrev pub invariant-loop-index : goal.invariant-loop-index
invariant-loop-index l = vec_len l.firsts ≤ l.index
