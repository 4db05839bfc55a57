use Rattle.std.proofs.Common.{◌≡◌, map, take}
use Rattle.og_parse.specs.TreeOf.{element_of}
use Rattle.og_erase_readable.proofs.copies.copy_elements.Given as goal

abbrev pub invariant-loop-element : goal.invariant-loop-element
invariant-loop-element l = map element_of l.copies.items ≡ map element_of (take l.element-index l.elements)
