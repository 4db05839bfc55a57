use Rattle.std.proofs.Common.{◌≡◌, ◌++◌, map, drop}
use Rattle.og_cond.specs.Pieces.{piece_of}
use Rattle.og_cond.specs.Sides.{note_of}
use Rattle.og_cond.proofs.sides.notes_of.Given as goal

abbrev pub invariant-loop-item : goal.invariant-loop-item
invariant-loop-item l =
    map note_of l.notes.items ++ map (λ p. p.before) (map piece_of (drop l.item-index l.items))
    ≡ map (λ p. p.before) (map piece_of l.items)
