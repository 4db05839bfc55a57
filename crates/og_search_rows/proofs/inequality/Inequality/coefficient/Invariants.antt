use Rattle.std.proofs.Common.{◌≡◌, drop, map}
use Rattle.og_linear.specs.Replaced.{coefficient}
use Rattle.og_search_rows.specs.Inequality.{pair_of}
use Rattle.og_search_rows.proofs.inequality.Inequality.coefficient.Given as goal

abbrev pub invariant-loop-term : goal.invariant-loop-term
invariant-loop-term l = coefficient l.var (map pair_of (drop l.term-index l.term-items)) ≡ coefficient l.var (map pair_of l.term-items)
