use Rattle.std.proofs.Common.{◌≡◌, ◌++◌, drop}
use Rattle.og_report_html.specs.Edges.{places_of}
use Rattle.og_report_html.proofs.edge.places_of.Given as goal

abbrev pub invariant-loop-number : goal.invariant-loop-number
invariant-loop-number l = l.places.items ++ places_of l.row (drop l.number-index l.numbers) ≡ places_of l.row l.numbers
