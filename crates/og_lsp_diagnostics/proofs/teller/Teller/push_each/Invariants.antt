use Rattle.og_lsp_diagnostics.specs.Extents.{AreRelatedIn}
use Rattle.og_lsp_diagnostics.specs.Said.{text_of}
use Rattle.og_lsp_diagnostics.proofs.teller.Teller.push_each.Given as goal

abbrev pub invariant-loop-assert : goal.invariant-loop-assert
invariant-loop-assert l = AreRelatedIn (text_of l.self.page) l.related.items
