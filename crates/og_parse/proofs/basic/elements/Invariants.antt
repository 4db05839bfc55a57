use Rattle.std.proofs.Common.{◌≡◌, map, length}
use Rattle.og_text.specs.declared.token.TokenKind.TheVariants.{Semicolon}
use Rattle.og_parse.specs.Reading.{is_a, many_at, after_at}
use Rattle.og_parse.proofs.Loops.{with_front}
use Rattle.og_parse.specs.TreeOf.{element_of}
use Rattle.og_parse.specs.Reads.{element_at, separated_elements_at}
use Rattle.og_parse.proofs.basic.elements.Given as goal

abbrev pub invariant-more : goal.invariant-more
invariant-more l = with_front (map element_of l.all.items) (many_at (is_a Semicolon) (after_at Semicolon element_at) l.cursor) ≡ separated_elements_at l.fn.cursor

abbrev pub decreases-more : goal.decreases-more
decreases-more l = length l.cursor
