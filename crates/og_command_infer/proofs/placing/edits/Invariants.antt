use Rattle.std.proofs.Common.{All}
use Rattle.og_command_infer.specs.Edits.{IsInBraces}
use Rattle.og_command_infer.proofs.placing.edits.Given as goal

abbrev pub invariant-loop-addition : goal.invariant-loop-addition
invariant-loop-addition l = All (IsInBraces l.text) l.edits.items
