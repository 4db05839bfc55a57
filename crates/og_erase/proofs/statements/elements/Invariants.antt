use Rattle.std.proofs.Common.{◌≡◌, drop, length, map, take}
use Rattle.std.specs.List.{AllByRecursion}
use Rattle.og_parse.specs.TreeOf.{element_of}
use Rattle.og_typed.specs.Plain.{simple}
use Rattle.og_typed.specs.Rule.{IsUsableSimple}
use Rattle.og_erase.specs.Collected as collected
use Rattle.og_erase.proofs.statements.elements.Given as goal

abbrev pub invariant-loop-basic : goal.invariant-loop-basic
invariant-loop-basic l = record {
  usable : AllByRecursion (IsUsableSimple (length l.names)) (map simple (drop l.basic-index l.body));
  made : map element_of l.elements.items ≡ map (λ s. collected.placed (collected.basic l.names s)) (map simple (take l.basic-index l.body));
}
