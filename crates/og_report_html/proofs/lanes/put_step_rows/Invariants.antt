use Rattle.std.proofs.Common.{◌≡◌, ◌+◌, ◌++◌, drop}
use Rattle.og_report_html.specs.Lanes.{numbered, step_row}
use Rattle.og_report_html.proofs.lanes.put_step_rows.Given as goal

abbrev pub invariant-loop-index : goal.invariant-loop-index
invariant-loop-index l =
    l.text.items ++ numbered (step_row l.frame.utf8 l.frame.names.now l.frame.source.now l.frame.lanes) (l.index + 1) (drop l.index l.rows)
    ≡ l.initial.text.items ++ numbered (step_row l.frame.utf8 l.frame.names.now l.frame.source.now l.frame.lanes) (l.skipped + 1) (drop l.skipped l.rows)
