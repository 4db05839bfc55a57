use Rattle.std.proofs.Common.{◌≡◌, None, take}
use Rattle.og_command_run.specs.Schedules.{history_of}
use Rattle.og_command_run.proofs.schedule.follow.Given as goal

abbrev pub invariant-loop-k : goal.invariant-loop-k
invariant-loop-k l = (l.board.given ≡ l.initial.board.given) × (l.board.history ≡ history_of l.outline (take l.k l.steps)) × (l.board.halted ≡ None)
