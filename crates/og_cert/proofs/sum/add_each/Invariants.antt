use Rattle.std.proofs.Common.{◌≡◌, ◌-◌, ◌≤◌, length, take, true}
use Rattle.og_linear.specs.Arith.{scale_terms, merge}
use Rattle.og_linear.specs.Bounded.{fits_terms}
use Rattle.og_cert.specs.Sums.{AreTerms}
use Rattle.og_cert.proofs.sum.add_each.Given as goal

abbrev pub invariant-loop-var : goal.invariant-loop-var
invariant-loop-var l = record {
  inside : l.index ≤ length l.atom.terms;
  terms : AreTerms l.terms.items;
  products : fits_terms (scale_terms l.k (take l.index l.atom.terms)) ≡ true;
  sum : l.terms.items ≡ merge l.fn.terms.items (scale_terms l.k (take l.index l.atom.terms));
}

abbrev pub decreases-loop-var : goal.decreases-loop-var
decreases-loop-var l = length l.atom.terms - l.index
