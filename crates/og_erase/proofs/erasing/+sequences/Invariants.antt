use Rattle.std.proofs.Common.{◌≡◌, ◌++◌, drop, map}
use Rattle.og_typed.specs.Plain.{item_of}
use Rattle.og_erase.proofs.Turns.{erased_items}
use Rattle.og_erase.proofs.erasing.+sequences.Given as goal

abbrev pub invariant-sequence-loop-item : goal.invariant-sequence-loop-item
invariant-sequence-loop-item l =
    map item_of l.items.items ++ erased_items l.vars (map item_of (drop l.item-index l.item-items)) ≡ erased_items l.vars (map item_of l.item-items)
