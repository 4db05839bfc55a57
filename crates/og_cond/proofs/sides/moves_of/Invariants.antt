use Rattle.std.proofs.Common.{◌≡◌, ◌++◌, map, drop}
use Rattle.std.specs.Prelude.{filter_map}
use Rattle.og_cond.specs.Conditions.{stmt_action}
use Rattle.og_cond.specs.Pieces.{piece_of}
use Rattle.og_cond.specs.Sides.{action_of}
use Rattle.og_cond.proofs.sides.moves_of.Given as goal

abbrev pub invariant-loop-item : goal.invariant-loop-item
invariant-loop-item l =
    map action_of l.moves.items ++ filter_map (λ p. stmt_action p.before.assertion p.at p.stmt) (map piece_of (drop l.item-index l.items))
    ≡ filter_map (λ p. stmt_action p.before.assertion p.at p.stmt) (map piece_of l.items)
