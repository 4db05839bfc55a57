use Rattle.std.proofs.Common.{◌≡◌, ◌++◌, drop}
use Rattle.og_report_html.specs.Edges.{numbers_within}
use Rattle.og_report_html.proofs.edge.numbers_within.Given as goal

abbrev pub invariant-loop-index : goal.invariant-loop-index
invariant-loop-index l = l.numbers.items ++ numbers_within l.places l.index (drop l.index l.spans) ≡ numbers_within l.places 0 l.spans
