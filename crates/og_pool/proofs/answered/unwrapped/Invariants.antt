use Rattle.std.proofs.Common.{◌≡◌, Some, map}
use Rattle.og_pool.proofs.answered.unwrapped.Given as goal

abbrev pub invariant-loop-slot : goal.invariant-loop-slot
invariant-loop-slot g l = map Some l.answers.items ≡ l.yielded
