use Rattle.std.proofs.Common.{◌≡◌, drop, map}
use Rattle.og_layout.specs.Pieces.{piece_in}
use Rattle.og_layout.proofs.same.same_pieces.Given as goal

abbrev pub invariant-loop-i : goal.invariant-loop-i
invariant-loop-i l =
    map (piece_in l.text) (drop l.i l.parts) ≡ map (piece_in l.other_text) (drop l.i l.others)
    → map (piece_in l.text) l.parts ≡ map (piece_in l.other_text) l.others
