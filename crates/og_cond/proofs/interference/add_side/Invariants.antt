use Rattle.std.proofs.Common.{◌≡◌, ◌++◌, map, drop}
use Rattle.og_cond.specs.Crossing.{crosses, side_crossings}
use Rattle.og_cond.specs.Seen.{seen}
use Rattle.og_cond.specs.Sides.{action_of, side_seen}
use Rattle.og_cond.proofs.interference.add_side.Given as goal

abbrev pub invariant-loop-action : goal.invariant-loop-action
invariant-loop-action l =
    let others = map side_seen l.earlier ++ map side_seen l.later in
    map seen l.conditions.items ++ side_crossings crosses l.variables (map action_of (drop l.action-index l.moves)) others
    ≡ map seen l.fn.conditions.items ++ side_crossings crosses l.variables (map action_of l.moves) others
