use Rattle.std.proofs.Common.{◌≡◌, map, take}
use Rattle.og_parse.specs.TreeOf.{assertion_of}
use Rattle.og_erase_readable.specs.Readable.{readable_assertion}
use Rattle.og_erase_readable.proofs.assertions.+assertions.Given as goal

abbrev pub invariant-assertions-loop-a : goal.invariant-assertions-loop-a
invariant-assertions-loop-a l = map assertion_of l.out.items ≡ map readable_assertion (map assertion_of (take l.a-index l.all))
