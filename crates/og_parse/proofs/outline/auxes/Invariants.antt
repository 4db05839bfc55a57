use Rattle.std.proofs.Common.{◌≡◌, length}
use Rattle.og_text.specs.declared.token.TokenKind.TheVariants.{Comma}
use Rattle.og_parse.specs.Reading.{is_a, many_at, after_at}
use Rattle.og_parse.proofs.Loops.{with_front}
use Rattle.og_parse.specs.Reads.{aux_at, auxes_at}
use Rattle.og_parse.proofs.outline.auxes.Given as goal

abbrev pub invariant-more : goal.invariant-more
invariant-more l = with_front l.all.items (many_at (is_a Comma) (after_at Comma aux_at) l.cursor) ≡ auxes_at l.fn.cursor

abbrev pub decreases-more : goal.decreases-more
decreases-more l = length l.cursor
