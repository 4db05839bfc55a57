use Rattle.std.proofs.Common.{◌≡◌, length}
use Rattle.og_command_explore.proofs.words.given.Given as goal

abbrev pub invariant-loop-word : goal.invariant-loop-word
invariant-loop-word l = length l.given.items ≡ l.outline.vars
