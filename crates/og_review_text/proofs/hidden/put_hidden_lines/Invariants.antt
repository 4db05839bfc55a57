use Rattle.std.proofs.Common.{◌≡◌, ◌++◌, drop}
use Rattle.std.specs.Prelude.{flat_map}
use Rattle.og_review_text.specs.Hidden.{hidden_line, hidden_lines}
use Rattle.og_review_text.proofs.hidden.put_hidden_lines.Given as goal

abbrev pub invariant-loop-hidden : goal.invariant-loop-hidden
invariant-loop-hidden l = l.text.items ++ flat_map (hidden_line l.source) (drop l.hidden-index l.hidden-items) ≡ l.initial.text.items ++ hidden_lines l.source
