use Rattle.std.proofs.Common.{◌≡◌, ◌++◌, drop}
use Rattle.og_lsp_names.specs.Choices.{keywords_in, keywords_of, AreKeywords}
use Rattle.og_lsp_names.proofs.choosing.keywords_of.Given as goal

abbrev pub invariant-loop-kind : goal.invariant-loop-kind
invariant-loop-kind l = record {
  labels : keywords_in l.choices.items ++ keywords_of (drop l.kind-index l.kinds) ≡ keywords_of l.kinds;
  alone : AreKeywords l.choices.items;
}
