use Rattle.std.proofs.Common.{◌≡◌, take}
use Rattle.og_completion.proofs.checking.begins_with_names.Given as goal

abbrev pub invariant-loop-i : goal.invariant-loop-i
invariant-loop-i l = take l.i l.new ≡ take l.i l.old
