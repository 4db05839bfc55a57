use Rattle.std.proofs.Common.{◌≡◌, ◌++◌, drop, true}
use Rattle.og_report_text.specs.Relations.{side_text}
use Rattle.og_report_text.proofs.relations.put_side.Given as goal

abbrev pub invariant-loop-term : goal.invariant-loop-term
invariant-loop-term l = l.text.items ++ side_text l.names l.side l.empty (drop l.term-index l.terms) ≡ l.initial.text.items ++ side_text l.names l.side true l.terms
