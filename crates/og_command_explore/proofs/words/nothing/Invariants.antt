use Rattle.std.proofs.Common.{◌≡◌, length}
use Rattle.og_command_explore.proofs.words.nothing.Given as goal

abbrev pub invariant-loop : goal.invariant-loop
invariant-loop l = length l.given.items ≡ l.counter
