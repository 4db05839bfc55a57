use Rattle.std.proofs.Common.{◌≡◌, length}
use Rattle.og_command_explore.proofs.starting.given_or.Given as goal

abbrev pub invariant-loop-var : goal.invariant-loop-var
invariant-loop-var l = length l.ranges.items ≡ l.var
