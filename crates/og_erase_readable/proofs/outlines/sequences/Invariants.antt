use Rattle.std.proofs.Common.{◌≡◌, map, take}
use Rattle.og_parse.specs.TreeOf.{seq_of}
use Rattle.og_erase_readable.specs.Readable.{readable_seq}
use Rattle.og_erase_readable.proofs.outlines.sequences.Given as goal

abbrev pub invariant-loop-seq : goal.invariant-loop-seq
invariant-loop-seq l = map seq_of l.sequences.items ≡ map readable_seq (map seq_of (take l.seq-index l.all))
