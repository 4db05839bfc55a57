use Rattle.std.proofs.Common.{◌≡◌, map, take}
use Rattle.og_erase.specs.Collected.{named}
use Rattle.og_erase.proofs.program.declared.Given as goal

abbrev pub invariant-loop-name : goal.invariant-loop-name
invariant-loop-name l = l.declared.items ≡ map named (take l.name-index l.names)
