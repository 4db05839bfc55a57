use Rattle.std.proofs.Common.{◌≡◌, vec_len}
use Rattle.og_find_all.proofs.gathering.Gathered.placed.Given as goal

abbrev pub invariant-loop-place : goal.invariant-loop-place
invariant-loop-place l = vec_len l.followers ≡ l.place
