use Rattle.std.proofs.Common.{sym, arith}
use Rattle.og_text.specs.declared.token.TokenKind.TheVariants.{Comma}
use Rattle.og_parse.specs.Language.{first_place}
use Rattle.og_parse.proofs.Loops.{goes_on_after, onward, symbol_onward}
use Rattle.og_parse.specs.Reads.{auxes_at}
use Rattle.og_parse.proofs.OutlineLaws.{aux_laws}
use Rattle.og_parse.proofs.outline.auxes.Goals as goal

pub more-preserved : goal.more-preserved
more-preserved c =
    rw c.in_ok-push-2.ensures.items (goes_on_after Comma (onward aux_laws) c.more.all.items c.more.cursor (first_place c.more.cursor, c.eat.new.self) c.in_ok-aux-2.field-0 c.aux-in-more.new.cursor (auxes_at c.args.cursor.now) (sym c.more-test.ensures.found) c.more-test.ensures.left c.in_ok-aux-2.ensures c.more.invariant)

pub more-smaller : goal.more-smaller
more-smaller c =
    omega (arith, symbol_onward Comma c.more.cursor (first_place c.more.cursor) c.eat.new.self c.more-test.ensures.left, onward aux_laws c.eat.new.self c.in_ok-aux-2.field-0 c.aux-in-more.new.cursor c.in_ok-aux-2.ensures)
