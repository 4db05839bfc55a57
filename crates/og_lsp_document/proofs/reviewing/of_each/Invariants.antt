use Rattle.std.specs.List.{AllZip}
use Rattle.og_lsp_diagnostics.specs.Extents.{AreSaidIn}
use Rattle.og_lsp_document.specs.Reviewed.{IsOfUnused}
use Rattle.og_lsp_document.proofs.reviewing.of_each.Given as goal

abbrev pub invariant-loop-unused : goal.invariant-loop-unused
invariant-loop-unused l = record {
  are : AllZip (IsOfUnused l.naming.text.now l.naming.other l.naming.words.now l.naming.names.now) l.yielded l.said.items;
  within : AreSaidIn l.naming.text.now l.said.items;
}
