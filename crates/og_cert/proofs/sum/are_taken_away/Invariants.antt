use Rattle.std.proofs.Common.{◌≡◌, take}
use Rattle.og_cert.proofs.Sums.{TakenAway}
use Rattle.og_cert.proofs.sum.are_taken_away.Given as goal

abbrev pub invariant-loop-t : goal.invariant-loop-t
invariant-loop-t l = record {
  index : l.index ≡ l.t-index;
  away : TakenAway l.k (take l.t-index l.terms) (take l.t-index l.atom.terms);
}
