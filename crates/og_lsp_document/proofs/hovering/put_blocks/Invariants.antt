use Rattle.std.proofs.Common.{◌≡◌, ◌++◌, drop}
use Rattle.og_lsp_document.specs.Hovers.{blocks_text}
use Rattle.og_lsp_document.proofs.hovering.put_blocks.Given as goal

abbrev pub invariant-loop-diagnostic : goal.invariant-loop-diagnostic
invariant-loop-diagnostic l = l.text.items ++ blocks_text l.part (drop l.diagnostic-index l.all) ≡ l.initial.text.items ++ blocks_text l.part l.all
