use Rattle.std.proofs.Common.{◌≡◌, ◌++◌, [], map, take, drop}
use Rattle.og_cond.specs.Crossing.{crosses, crossings}
use Rattle.og_cond.specs.Seen.{seen}
use Rattle.og_cond.specs.Sides.{side_seen}
use Rattle.og_cond.proofs.interference.add_crossings.Given as goal

abbrev pub invariant-loop-index : goal.invariant-loop-index
invariant-loop-index l =
    map seen l.conditions.items ++ crossings crosses l.variables (map side_seen (take l.index l.sides)) (map side_seen (drop l.index l.sides))
    ≡ map seen l.fn.conditions.items ++ crossings crosses l.variables [] (map side_seen l.sides)
