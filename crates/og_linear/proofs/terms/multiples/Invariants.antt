use Rattle.std.proofs.Common.{◌≡◌, drop}
use Rattle.og_linear.specs.Arith.{scale_terms}
use Rattle.og_linear.specs.Answer.{checked_terms}
use Rattle.og_linear.proofs.Steps.{with_front}
use Rattle.og_linear.proofs.terms.multiples.Given as goal

abbrev pub invariant-loop-t : goal.invariant-loop-t
invariant-loop-t l = with_front l.out.items (checked_terms (scale_terms l.k (drop l.t-index l.terms))) ≡ checked_terms (scale_terms l.k l.terms)
