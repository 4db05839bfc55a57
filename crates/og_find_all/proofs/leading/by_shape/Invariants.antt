use Rattle.std.proofs.Common.{◌≡◌, ◌+◌, vec_len}
use Rattle.og_find_all.proofs.leading.by_shape.Given as goal

abbrev pub invariant-loop-group : goal.invariant-loop-group
invariant-loop-group l = vec_len l.shapes.leaders + vec_len l.shapes.heirs + vec_len l.shapes.others ≡ l.group
