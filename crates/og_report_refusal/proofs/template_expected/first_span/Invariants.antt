use Rattle.std.proofs.Common.{◌≡◌, drop}
use Rattle.og_report_refusal.specs.Templates.{span_behind}
use Rattle.og_report_refusal.proofs.template_expected.first_span.Given as goal

abbrev pub invariant-loop-word : goal.invariant-loop-word
invariant-loop-word l = span_behind l.at (drop l.word-index l.words) ≡ span_behind l.at l.words
