use Rattle.std.proofs.Common.{◌≡◌, ◌≤◌}
use Rattle.og_cert_text.specs.Shown.{shown}
use Rattle.og_find.specs.Missing.{missing_up_to}
use Rattle.og_find.proofs.counting.missing_up_to.Given as goal

abbrev pub invariant-loop-before : goal.invariant-loop-before
invariant-loop-before l = (l.missing ≡ missing_up_to (shown l.file) l.before) × (l.missing ≤ l.before)
