use Rattle.std.proofs.Common.{◌≡◌, length}
use Rattle.og_parse.specs.Reading.{many_at}
use Rattle.og_parse.proofs.Loops.{with_front}
use Rattle.og_parse.specs.Reads.{a_sign, term_after_at, terms_at}
use Rattle.og_parse.proofs.sum.terms.Given as goal

abbrev pub invariant-more : goal.invariant-more
invariant-more l = with_front l.all.items (many_at a_sign term_after_at l.cursor) ≡ terms_at l.fn.cursor

abbrev pub decreases-more : goal.decreases-more
decreases-more l = length l.cursor
