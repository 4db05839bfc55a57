use Rattle.std.proofs.Common.{◌≡◌, ◌+◌, drop}
use Rattle.og_facts.specs.Rooms.{count_each}
use Rattle.og_facts.proofs.counting.room_after_each.Given as goal

abbrev pub invariant-loop-item : goal.invariant-loop-item
invariant-loop-item g l = l.left + count_each g.T.Counted.facts l.items ≡ l.room + count_each g.T.Counted.facts (drop l.item-index l.items)
