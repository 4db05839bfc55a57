use Rattle.std.proofs.Common.{◌≡◌}
use Rattle.og_lsp_names.specs.Choices.{keywords_in}
use Rattle.og_lsp_names.proofs.choosing.add_names.Given as goal

abbrev pub invariant-loop-symbol : goal.invariant-loop-symbol
invariant-loop-symbol l = keywords_in l.choices.items ≡ keywords_in l.initial.choices.items
