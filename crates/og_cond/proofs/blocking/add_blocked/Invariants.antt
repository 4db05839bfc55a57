use Rattle.std.proofs.Common.{◌≡◌, ◌++◌, map, drop}
use Rattle.std.specs.Prelude.{filter_map}
use Rattle.og_cond.specs.Conditions.{stmt_blocked}
use Rattle.og_cond.specs.Pieces.{piece_of}
use Rattle.og_cond.specs.Seen.{parts_of}
use Rattle.og_cond.proofs.blocking.add_blocked.Given as goal

abbrev pub invariant-loop-item : goal.invariant-loop-item
invariant-loop-item l =
    map parts_of l.parts.items ++ filter_map (λ p. stmt_blocked p.before.assertion p.stmt) (map piece_of (drop l.item-index l.items))
    ≡ map parts_of l.fn.parts.items ++ filter_map (λ p. stmt_blocked p.before.assertion p.stmt) (map piece_of l.items)
