use Rattle.std.proofs.Common.{◌≡◌, ◌++◌, drop}
use Rattle.og_lsp_names.specs.Names.{spans_named}
use Rattle.og_lsp_names.proofs.names.spans_of.Given as goal

abbrev pub invariant-loop-word : goal.invariant-loop-word
invariant-loop-word l = l.spans.items ++ spans_named l.name (drop l.word-index l.all) ≡ spans_named l.name l.all
