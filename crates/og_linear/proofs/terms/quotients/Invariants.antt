use Rattle.std.proofs.Common.{◌≡◌, drop}
use Rattle.og_linear.specs.Answer.{divided_terms}
use Rattle.og_linear.proofs.Steps.{with_front}
use Rattle.og_linear.proofs.terms.quotients.Given as goal

abbrev pub invariant-loop-t : goal.invariant-loop-t
invariant-loop-t l = with_front l.out.items (divided_terms l.d (drop l.t-index l.terms)) ≡ divided_terms l.d l.terms
