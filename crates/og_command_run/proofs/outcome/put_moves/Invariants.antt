use Rattle.std.proofs.Common.{◌≡◌, ◌++◌, drop}
use Rattle.og_command_run.specs.Texts.{moves_text}
use Rattle.og_command_run.proofs.outcome.put_moves.Given as goal

abbrev pub invariant-loop-process : goal.invariant-loop-process
invariant-loop-process l = l.text.items ++ moves_text l.main (drop l.process-index l.history) ≡ l.initial.text.items ++ moves_text l.main l.history
