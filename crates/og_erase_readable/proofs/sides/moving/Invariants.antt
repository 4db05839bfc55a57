use Rattle.std.proofs.Common.{◌≡◌, ◌++◌, drop, filter, map}
use Rattle.std.specs.Prelude.{not}
use Rattle.og_erase_readable.specs.Readable.{stays, turned}
use Rattle.og_erase_readable.proofs.sides.moving.Given as goal

abbrev pub invariant-loop-term : goal.invariant-loop-term
invariant-loop-term l =
    l.out.items ++ map turned (filter (λ t. not (stays l.some t)) (drop l.term-index l.terms)) ≡ map turned (filter (λ t. not (stays l.some t)) l.terms)
