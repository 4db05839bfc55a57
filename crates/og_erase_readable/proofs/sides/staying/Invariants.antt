use Rattle.std.proofs.Common.{◌≡◌, ◌++◌, drop, filter}
use Rattle.og_erase_readable.specs.Readable.{stays}
use Rattle.og_erase_readable.proofs.sides.staying.Given as goal

abbrev pub invariant-loop-term : goal.invariant-loop-term
invariant-loop-term l = l.out.items ++ filter (stays l.some) (drop l.term-index l.terms) ≡ filter (stays l.some) l.terms
