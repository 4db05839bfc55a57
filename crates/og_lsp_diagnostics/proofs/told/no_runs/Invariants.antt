use Rattle.std.proofs.Common.{◌≡◌, ◌++◌, drop}
use Rattle.og_lsp_diagnostics.specs.Said.{no_runs}
use Rattle.og_lsp_diagnostics.proofs.told.no_runs.Given as goal

abbrev pub invariant-loop : goal.invariant-loop
invariant-loop l = l.runs.items ++ no_runs (drop l.index l.diagnoses) ≡ no_runs l.diagnoses
