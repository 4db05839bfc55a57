use Rattle.std.proofs.Common.{◌≡◌}
use Rattle.og_lsp_text.specs.Starts.{starts_of}
use Rattle.og_lsp_text.proofs.lines.Lines.new.Given as goal

abbrev pub invariant-loop-at : goal.invariant-loop-at
invariant-loop-at l = l.starts.items ≡ starts_of l.text l.at
