use Rattle.std.proofs.Common.{arith, take}
use Rattle.std.proofs.lemmas.List.Sums.{suffix_len-le-length}
use Rattle.og_layout.specs.Pieces.{is_blank}
use Rattle.og_layout.proofs.parts.trimmed_len.Goals as goal

pub overflow_sub-result : goal.overflow_sub-result
overflow_sub-result c =
    omega (arith, c.blanks_at_end.ensures, suffix_len-le-length is_blank (take c.line_len.result c.args.rest.now))
