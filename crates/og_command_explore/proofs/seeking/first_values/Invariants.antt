use Rattle.std.proofs.Common.{◌≡◌, length}
use Rattle.og_command_explore.proofs.seeking.first_values.Given as goal

abbrev pub invariant-loop-var : goal.invariant-loop-var
invariant-loop-var l = length l.values.items ≡ l.var
