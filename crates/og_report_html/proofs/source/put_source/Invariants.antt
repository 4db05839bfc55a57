use Rattle.std.proofs.Common.{◌≡◌, ◌≤◌, ◌+◌, ◌++◌, ℕ, drop}
use Rattle.og_report_html.specs.Marks.{found}
use Rattle.og_report_html.specs.Source.{source_from, source_text}
use Rattle.og_report_html.proofs.source.put_source.Given as goal

abbrev pub invariant-loop-at : goal.invariant-loop-at
invariant-loop-at l = record {
  whole : l.text.items ++ source_from l.utf8 (λ (p : ℕ). found p l.marks) l.at l.spot l.rest (drop l.at l.source) ≡ l.initial.text.items ++ source_text l.utf8 (λ (p : ℕ). found p l.marks) l.edges l.source;
  line : l.spot.line ≤ l.at + 1;
}
