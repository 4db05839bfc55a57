use Rattle.std.proofs.Common.{◌+◌, drop, map}
use Rattle.og_report_html.proofs.Charts.{MakesAll}
use Rattle.og_report_html.proofs.run_texts.run_parts.Given as goal

abbrev pub invariant-loop-index : goal.invariant-loop-index
invariant-loop-index l = MakesAll l.outline l.source l.search.explored l.diagnoses l.runs (l.index + 1) (drop l.index l.diagnoses) (drop l.index l.runs) (map (λ t. t.items) l.texts.items)
