use Rattle.std.proofs.Common.{◌≡◌, ◌++◌, drop}
use Rattle.std.specs.Prelude.{flat_map}
use Rattle.og_review_text.specs.Unused.{unused_line, unused_lines}
use Rattle.og_review_text.proofs.unused.put_unused.Given as goal

abbrev pub invariant-loop-unused : goal.invariant-loop-unused
invariant-loop-unused l = l.text.items ++ flat_map (unused_line l.outline.names) (drop l.unused-index l.unused-items) ≡ l.initial.text.items ++ unused_lines l.outline
