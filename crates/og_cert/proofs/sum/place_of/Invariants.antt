use Rattle.std.proofs.Common.{◌≡◌, take, true}
use Rattle.og_cert.proofs.Terms.{below}
use Rattle.og_cert.proofs.sum.place_of.Given as goal

abbrev pub invariant-loop-t : goal.invariant-loop-t
invariant-loop-t l = record {
  place : l.place ≡ l.t-index;
  before : below l.var (take l.t-index l.terms) ≡ true;
}
