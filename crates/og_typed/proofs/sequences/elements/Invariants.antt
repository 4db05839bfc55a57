use Rattle.std.proofs.Common.{◌≡◌, map, drop, vec_len}
use Rattle.og_parse.specs.TreeOf.{element_of}
use Rattle.og_typed.specs.Plain.{simple}
use Rattle.og_typed.specs.declared.fault.TypeFault.TheVariants as faults
use Rattle.og_typed.specs.Resolved as meaning
use Rattle.og_typed.specs.Scoped.{scope_of}
use Rattle.og_typed.proofs.Counting.{front}
use Rattle.og_typed.proofs.sequences.elements.Given as goal

abbrev pub invariant-loop-element : goal.invariant-loop-element
invariant-loop-element l = record {
  so_far : front (map simple l.body.items) (meaning.counted 64 (λ element. faults.AwaitTooLong element.place.start) (λ element. meaning.simple (scope_of l.scope) element.value) l.element-index (map element_of (drop l.element-index l.raw))) ≡ meaning.elements (scope_of l.scope) (map element_of l.raw);
  count : vec_len l.body ≡ l.element-index;
}
