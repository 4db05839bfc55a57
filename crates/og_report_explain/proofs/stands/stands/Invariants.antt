use Rattle.std.specs.List.{All}
use Rattle.og_report_explain.specs.Stands.{IsStand}
use Rattle.og_report_explain.proofs.stands.stands.Given as goal

abbrev pub invariant-loop-process : goal.invariant-loop-process
invariant-loop-process l = All (IsStand l.index l.values) l.stands.items
