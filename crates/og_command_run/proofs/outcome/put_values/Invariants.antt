use Rattle.std.proofs.Common.{◌≡◌, ◌++◌, length, true}
use Rattle.og_command_run.specs.Texts.{values_text}
use Rattle.og_command_run.proofs.outcome.put_values.Given as goal

abbrev pub invariant-loop-names : goal.invariant-loop-names
invariant-loop-names l = l.text.items ++ values_text l.first l.names l.values ≡ l.initial.text.items ++ values_text true l.initial.names l.initial.values

abbrev pub decreases-loop-names : goal.decreases-loop-names
decreases-loop-names l = length l.names
