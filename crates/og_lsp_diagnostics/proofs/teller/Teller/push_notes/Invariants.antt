use Rattle.og_lsp_diagnostics.specs.Extents.{AreRelatedIn}
use Rattle.og_lsp_diagnostics.specs.Said.{text_of}
use Rattle.og_lsp_diagnostics.proofs.teller.Teller.push_notes.Given as goal

abbrev pub invariant-loop-note : goal.invariant-loop-note
invariant-loop-note l = AreRelatedIn (text_of l.self.page) l.related.items
