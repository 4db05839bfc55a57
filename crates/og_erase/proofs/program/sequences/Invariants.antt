use Rattle.std.proofs.Common.{◌≡◌, drop, length, map, take}
use Rattle.std.specs.List.{AllByRecursion}
use Rattle.og_parse.specs.TreeOf.{seq_of}
use Rattle.og_typed.specs.Plain as plain
use Rattle.og_typed.specs.Rule.{IsUsableSequence}
use Rattle.og_erase.specs.Collected as collected
use Rattle.og_erase.proofs.program.sequences.Given as goal

abbrev pub invariant-loop-process : goal.invariant-loop-process
invariant-loop-process l = record {
  usable : AllByRecursion (IsUsableSequence (length l.names)) (map plain.sequence (drop l.process-index l.all));
  made : map seq_of l.sequences.items ≡ map (collected.sequence l.names) (map plain.sequence (take l.process-index l.all));
}
