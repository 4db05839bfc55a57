use Rattle.std.proofs.Common.{◌≡◌, ◌++◌, drop, map}
use Rattle.og_cond.specs.Seen.{parts_of}
use Rattle.og_command_prove.proofs.advising.copied_lists.Given as goal

abbrev pub invariant-loop-parts : goal.invariant-loop-parts
invariant-loop-parts l = map parts_of l.copied.items ++ map parts_of (drop l.parts-index l.lists) ≡ map parts_of l.lists
