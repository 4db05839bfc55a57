use Rattle.std.proofs.Common.{sym, map, arith}
use Rattle.std.proofs.lemmas.List.{map_push}
use Rattle.og_text.specs.declared.token.TokenKind.TheVariants.{Semicolon}
use Rattle.og_parse.specs.Language.{first_place}
use Rattle.og_parse.proofs.Loops.{goes_on_after, onward, symbol_onward}
use Rattle.og_parse.specs.TreeOf.{element_of}
use Rattle.og_parse.specs.Reads.{separated_elements_at}
use Rattle.og_parse.proofs.StatementLaws.{element_laws}
use Rattle.og_parse.proofs.basic.elements.Goals as goal

pub more-preserved : goal.more-preserved
more-preserved c =
    rw (c.in_ok-push-2.ensures.items, map_push element_of c.more.all.items c.in_ok-element-2.field-0)
    (goes_on_after Semicolon (onward element_laws) (map element_of c.more.all.items) c.more.cursor (first_place c.more.cursor, c.eat.new.self) (element_of c.in_ok-element-2.field-0) c.element-in-more.new.cursor (separated_elements_at c.args.cursor.now) (sym c.more-test.ensures.found) c.more-test.ensures.left c.in_ok-element-2.ensures c.more.invariant)

pub more-smaller : goal.more-smaller
more-smaller c =
    omega (arith, symbol_onward Semicolon c.more.cursor (first_place c.more.cursor) c.eat.new.self c.more-test.ensures.left, onward element_laws c.eat.new.self (element_of c.in_ok-element-2.field-0) c.element-in-more.new.cursor c.in_ok-element-2.ensures)
