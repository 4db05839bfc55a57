use Rattle.std.proofs.Common.{◌≡◌, ◌-◌, ◌++◌}
use Rattle.std.specs.List.{range_with_len}
use Rattle.og_command_notes.specs.Notes.{auxiliaries}
use Rattle.og_command_notes.proofs.notes.auxiliaries.Given as goal

abbrev pub invariant-loop-var : goal.invariant-loop-var
invariant-loop-var l = l.auxiliaries.items ++ range_with_len l.var (l.count - l.var) ≡ auxiliaries l.outline
