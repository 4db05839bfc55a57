use Rattle.std.proofs.Common.{◌≡◌, ◌++◌, drop}
use Rattle.og_report_html.specs.Edges.{false_edges}
use Rattle.og_report_html.proofs.edge.add_false.Given as goal

abbrev pub invariant-loop-number : goal.invariant-loop-number
invariant-loop-number l = l.edges.items ++ false_edges l.spans (drop l.number-index l.numbers) ≡ l.initial.edges.items ++ false_edges l.spans l.numbers
