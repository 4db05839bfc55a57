use Rattle.std.specs.List.{AllZip}
use Rattle.og_lsp_diagnostics.specs.Extents.{AreSaidIn}
use Rattle.og_lsp_diagnostics.specs.Said.{text_of}
use Rattle.og_lsp_document.specs.Reviewed.{IsOfHidden}
use Rattle.og_lsp_document.proofs.reviewing.of_characters.Given as goal

abbrev pub invariant-loop-hidden : goal.invariant-loop-hidden
invariant-loop-hidden l = record {
  are : AllZip (IsOfHidden (text_of l.teller.page)) l.yielded l.said.items;
  within : AreSaidIn (text_of l.teller.page) l.said.items;
}
