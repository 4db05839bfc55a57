use Rattle.std.proofs.Common.{◌≡◌, ◌++◌, drop}
use Rattle.og_report_html.specs.Conjuncts.{notes_from, notes_in}
use Rattle.og_report_html.proofs.conjuncts.notes_in.Given as goal

abbrev pub invariant-loop-index : goal.invariant-loop-index
invariant-loop-index l = l.notes.items ++ notes_from l.index l.mode l.start (drop l.index l.source) ≡ notes_in l.source
