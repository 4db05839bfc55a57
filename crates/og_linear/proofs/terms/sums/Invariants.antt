use Rattle.std.proofs.Common.{◌≡◌, ◌+◌, ◌-◌, ◌≤◌, drop, length}
use Rattle.og_linear.specs.Arith.{merge}
use Rattle.og_linear.specs.Answer.{checked_terms}
use Rattle.og_linear.proofs.Steps.{with_front}
use Rattle.og_linear.proofs.terms.sums.Given as goal

abbrev pub invariant-both : goal.invariant-both
invariant-both l =
    (with_front l.out.items (checked_terms (merge (drop l.i l.a) (drop l.j l.b))) ≡ checked_terms (merge l.a l.b)) × (l.i ≤ length l.a) × (l.j ≤ length l.b)

abbrev pub decreases-both : goal.decreases-both
decreases-both l = (length l.a - l.i) + (length l.b - l.j)
