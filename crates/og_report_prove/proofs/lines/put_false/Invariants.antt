use Rattle.std.proofs.Common.{◌≡◌, ◌++◌, drop}
use Rattle.og_report_prove.specs.Blocks.{false_lines}
use Rattle.og_report_prove.proofs.lines.put_false.Given as goal

abbrev pub invariant-loop-assert : goal.invariant-loop-assert
invariant-loop-assert l = l.text.items ++ false_lines l.names l.origins.source.now l.origins.rows l.at (drop l.assert-index l.found) ≡ l.initial.text.items ++ false_lines l.names l.origins.source.now l.origins.rows l.at l.found
