use Rattle.std.proofs.Common.{◌≡◌, ◌++◌, map, drop}
use Rattle.og_typed.specs.declared.statement.Seq.{out-Seq}
use Rattle.og_typed.specs.Pieces.{pieces}
use Rattle.og_typed.specs.Plain.{noted, sequence}
use Rattle.og_cond.specs.Pieces.{piece_of}
use Rattle.og_cond.proofs.PieceItems.{pieces_from}
use Rattle.og_cond.proofs.pieces.+pieces.Given as goal

abbrev pub decreases-add_seq : goal.decreases-add_seq
decreases-add_seq l = goal.size-add_seq l

abbrev pub decreases-add_stmt : goal.decreases-add_stmt
decreases-add_stmt l = goal.size-add_stmt l

abbrev pub invariant-add_seq-loop-item : goal.invariant-add_seq-loop-item
invariant-add_seq-loop-item l =
    map piece_of l.items.items ++ pieces_from (drop l.item-index l.item-items) (noted (out-Seq l.seq).last)
    ≡ map piece_of l.fn.items.items ++ pieces (sequence l.seq)
