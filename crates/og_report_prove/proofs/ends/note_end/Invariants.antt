use Rattle.std.proofs.Common.{◌≡◌, drop, false}
use Rattle.og_report_prove.specs.Ends.{note_end}
use Rattle.og_report_prove.proofs.ends.note_end.Given as goal

abbrev pub invariant-loop-place : goal.invariant-loop-place
invariant-loop-place l = note_end l.comment l.place (drop l.place l.source) ≡ note_end false l.at (drop l.at l.source)
