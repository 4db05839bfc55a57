use Rattle.std.proofs.Common.{◌≡◌, ◌≤◌, ◌-◌, ◌++◌}
use Rattle.og_report_html.specs.Conjuncts.{conjuncts_from, conjuncts_in}
use Rattle.og_report_html.proofs.conjuncts.conjuncts_in.Given as goal

abbrev pub invariant-loop-at : goal.invariant-loop-at
invariant-loop-at l = record {
  whole : l.spans.items ++ conjuncts_from l.source l.cut l.at (l.fn.note.end - l.at) ≡ conjuncts_in l.source l.fn.note;
  depth : l.cut.depth ≤ l.at;
}
