use Rattle.std.proofs.Common.{◌≡◌, ◌++◌, drop}
use Rattle.og_report_prove.specs.Blocks.{stand_lines}
use Rattle.og_report_prove.proofs.lines.put_stands.Given as goal

abbrev pub invariant-loop-stand : goal.invariant-loop-stand
invariant-loop-stand l = l.text.items ++ stand_lines l.origins.source.now l.origins.rows (drop l.stand-index l.stands) ≡ l.initial.text.items ++ stand_lines l.origins.source.now l.origins.rows l.stands
