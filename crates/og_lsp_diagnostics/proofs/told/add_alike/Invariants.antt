use Rattle.std.proofs.Common.{◌≡◌, ◌++◌, drop, map}
use Rattle.og_report_findings.specs.Causes.{item_of}
use Rattle.og_lsp_diagnostics.specs.Extents.{AreRelatedIn}
use Rattle.og_lsp_diagnostics.specs.Said.{text_of, message_of, alike_lines}
use Rattle.og_lsp_diagnostics.proofs.told.add_alike.Given as goal

abbrev pub invariant-loop-item : goal.invariant-loop-item
invariant-loop-item l = record {
  within : AreRelatedIn (text_of l.teller.page) l.related.items;
  lines : map message_of l.related.items ++ alike_lines (map item_of (drop l.item-index l.others)) ≡ map message_of l.initial.related.items ++ alike_lines (map item_of l.others);
}
