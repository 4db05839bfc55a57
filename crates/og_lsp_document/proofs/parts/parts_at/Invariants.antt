use Rattle.std.proofs.Common.{◌≡◌, ◌++◌, map}
use Rattle.og_lsp_document.specs.Parts.{part_of, AreIn}
use Rattle.og_lsp_diagnostics.specs.Said.{text_of}
use Rattle.og_lsp_document.proofs.parts.parts_at.Given as goal

abbrev pub invariant-loop-at : goal.invariant-loop-at
invariant-loop-at l = record {
  whole : l.parts.items ++ map (part_of (text_of l.teller.page)) l.at-iterator ≡ map (part_of (text_of l.teller.page)) l.asked.entries;
  lies : AreIn (text_of l.teller.page) l.parts.items;
}
