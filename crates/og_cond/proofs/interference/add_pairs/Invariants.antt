use Rattle.std.proofs.Common.{◌≡◌, ◌++◌, map, drop}
use Rattle.og_cond.specs.Crossing.{crosses, pairs_of}
use Rattle.og_cond.specs.Seen.{seen}
use Rattle.og_cond.specs.Sides.{action_of, note_of}
use Rattle.og_cond.proofs.interference.add_pairs.Given as goal

abbrev pub invariant-loop-watched : goal.invariant-loop-watched
invariant-loop-watched l =
    map seen l.conditions.items ++ pairs_of crosses l.variables (action_of l.action) (map note_of (drop l.watched-index l.notes))
    ≡ map seen l.fn.conditions.items ++ pairs_of crosses l.variables (action_of l.action) (map note_of l.notes)
