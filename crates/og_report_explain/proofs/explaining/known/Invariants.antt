use Rattle.std.specs.List.{All}
use Rattle.og_typed.specs.Plain.{noted}
use Rattle.og_report_explain.specs.Explained.{IsTrueNote}
use Rattle.og_report_explain.proofs.explaining.known.Given as goal

abbrev pub invariant-loop-at : goal.invariant-loop-at
invariant-loop-at l = All (λ n. IsTrueNote l.outline l.values (noted n.now)) l.notes.items
