use Rattle.std.proofs.Common.{◌≡◌, ◌++◌, drop}
use Rattle.og_report_prove.specs.Blocks.{known_lines}
use Rattle.og_report_prove.proofs.lines.put_known_lines.Given as goal

abbrev pub invariant-loop-note : goal.invariant-loop-note
invariant-loop-note l = l.text.items ++ known_lines l.names l.origins.source.now l.origins.rows l.focus (drop l.note-index l.notes) ≡ l.initial.text.items ++ known_lines l.names l.origins.source.now l.origins.rows l.focus l.notes
