use Rattle.std.proofs.Common.{◌≡◌, ◌++◌, map, drop}
use Rattle.og_cond.specs.Crossing.{crosses, action_crossings}
use Rattle.og_cond.specs.Seen.{seen}
use Rattle.og_cond.specs.Sides.{action_of, side_seen}
use Rattle.og_cond.proofs.interference.add_action.Given as goal

abbrev pub invariant-loop-side : goal.invariant-loop-side
invariant-loop-side l =
    map seen l.conditions.items ++ action_crossings crosses l.variables (action_of l.action) (map side_seen (drop l.side-index l.others))
    ≡ map seen l.fn.conditions.items ++ action_crossings crosses l.variables (action_of l.action) (map side_seen l.others)
