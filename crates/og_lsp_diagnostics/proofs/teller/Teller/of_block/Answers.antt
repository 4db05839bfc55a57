use Rattle.og_lsp_diagnostics.specs.Said.{text_of}
use Rattle.og_lsp_diagnostics.proofs.Standing.{stands_lies}
use Rattle.og_lsp_diagnostics.proofs.teller.Teller.of_block.Goals as goal

pub returns-clause-within : goal.returns-clause-within
returns-clause-within c = record {
  span = stands_lies (text_of c.args.self.now.page) c.span-part.result c.in_ok-span.span c.in_ok-span.ensures c.span-part.ensures.lies;
  related = c.in_ok-related.ensures;
}
