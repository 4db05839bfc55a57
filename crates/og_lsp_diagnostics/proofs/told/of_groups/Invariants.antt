use Rattle.std.proofs.Common.{drop}
use Rattle.std.specs.List.{AllByRecursion}
use Rattle.og_report_findings.specs.Causes.{groups_of}
use Rattle.og_lsp_diagnostics.specs.Extents.{AreSaidIn}
use Rattle.og_lsp_diagnostics.specs.Said.{text_of, rows_of, HasSome, AreLeft}
use Rattle.og_lsp_diagnostics.proofs.told.of_groups.Given as goal

abbrev pub invariant-loop-group : goal.invariant-loop-group
invariant-loop-group l = record {
  within : AreSaidIn (text_of l.teller.page) l.diagnostics.items;
  some : AllByRecursion HasSome (groups_of (drop l.group-index l.groups));
  said : AreLeft (text_of l.teller.page) (rows_of l.teller.page) (groups_of (drop l.group-index l.groups)) (groups_of l.groups) l.diagnostics.items;
}
