use Rattle.std.proofs.Common.{◌≡◌, ◌-◌, ◌++◌}
use Rattle.std.specs.Prelude.{flat_map}
use Rattle.std.specs.List.{range_with_len}
use Rattle.og_review_text.specs.Unused.{unused_of, unused_variables}
use Rattle.og_review_text.proofs.unused.unused_variables.Given as goal

abbrev pub invariant-loop-var : goal.invariant-loop-var
invariant-loop-var l = l.all.items ++ flat_map (unused_of l.outline) (range_with_len l.var (l.count - l.var)) ≡ unused_variables l.outline
