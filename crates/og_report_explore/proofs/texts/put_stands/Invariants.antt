use Rattle.std.proofs.Common.{◌≡◌, ◌+◌, ◌++◌, drop}
use Rattle.og_report_explore.specs.Texts.{stand_lines}
use Rattle.og_report_explore.proofs.texts.put_stands.Given as goal

abbrev pub invariant-loop-index : goal.invariant-loop-index
invariant-loop-index l = l.text.items ++ stand_lines l.origins.source.now l.origins.rows (l.index + 1) (drop l.index l.stands) ≡ l.initial.text.items ++ stand_lines l.origins.source.now l.origins.rows 1 l.stands
