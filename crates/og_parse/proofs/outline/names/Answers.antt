use Rattle.std.proofs.Common.{sym}
use Rattle.og_text.specs.declared.token.TokenKind.TheVariants.{Comma}
use Rattle.og_parse.specs.Language.{first_place}
use Rattle.og_parse.proofs.Loops.{goes_on_after, token_onward}
use Rattle.og_parse.specs.Words.{name_of}
use Rattle.og_parse.specs.Reads.{names_at}
use Rattle.og_parse.proofs.outline.names.Goals as goal

pub more-preserved : goal.more-preserved
more-preserved c =
    rw c.in_ok-push-2.ensures.items (goes_on_after Comma (token_onward name_of) c.more.all.items c.more.cursor (first_place c.more.cursor, c.eat.new.self) c.in_ok-name-2.field-0 c.name-in-more.new.cursor (names_at c.args.cursor.now) (sym c.more-test.ensures.found) c.more-test.ensures.left c.in_ok-name-2.ensures c.more.invariant)
