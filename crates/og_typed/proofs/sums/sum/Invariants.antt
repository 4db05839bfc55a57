use Rattle.std.proofs.Common.{◌≡◌, ◌*◌, ◌^◌, drop}
use Rattle.og_typed.specs.Bounds.{IsWithin}
use Rattle.og_typed.specs.Scoped.{scope_of, use_of}
use Rattle.og_typed.specs.Resolved.{sum_from, sum_form}
use Rattle.og_parse.specs.TreeOf.{sum_of}
use Rattle.og_typed.proofs.sums.sum.Given as goal

abbrev pub invariant-loop-term : goal.invariant-loop-term
invariant-loop-term l = record {
  so_far : sum_from (scope_of l.scope) (use_of l.usage) l.total (drop l.term-index l.term-items) ≡ sum_form (scope_of l.scope) (use_of l.usage) (sum_of l.sum);
  small : IsWithin (l.term-index * 2 ^ 64) l.total;
}
