use Rattle.std.specs.List.{AllZip}
use Rattle.og_lsp_diagnostics.specs.Extents.{AreSaidIn}
use Rattle.og_lsp_diagnostics.specs.Remarked.{IsOfRemark}
use Rattle.og_lsp_diagnostics.specs.Said.{text_of, rows_of}
use Rattle.og_lsp_diagnostics.proofs.teller.Teller.of_remarks.Given as goal

abbrev pub invariant-loop-remark : goal.invariant-loop-remark
invariant-loop-remark l = record {
  are : AllZip (IsOfRemark (text_of l.self.page) (rows_of l.self.page)) l.yielded l.said.items;
  within : AreSaidIn (text_of l.self.page) l.said.items;
}
