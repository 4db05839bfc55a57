use Rattle.std.proofs.Common.{sym, map, arith}
use Rattle.std.proofs.lemmas.List.{map_push}
use Rattle.og_text.specs.declared.token.TokenKind.TheVariants.{And, Or}
use Rattle.og_parse.specs.Language.{first_place}
use Rattle.og_parse.proofs.Loops.{goes_on_after, onward, symbol_onward}
use Rattle.og_parse.specs.TreeOf.{assertion_of}
use Rattle.og_parse.specs.Reads.{opens, units_by, conjunctions_by}
use Rattle.og_parse.proofs.AssertionLaws.{unit_laws, conjunction_laws}
use Rattle.og_parse.proofs.assertions.+assertions.Goals as goal

pub units-more-preserved : goal.units-more-preserved
units-more-preserved t c =
    let n = c.args.depth in
    rw (c.in_ok-push-2.ensures.items, map_push assertion_of c.more.all.items c.in_ok-unit-2.field-0)
    (goes_on_after And (onward (unit_laws n)) (map assertion_of c.more.all.items) c.more.cursor (first_place c.more.cursor, c.eat.new.self) (assertion_of c.in_ok-unit-2.field-0) c.unit-in-more.new.cursor (units_by (opens n) c.args.cursor.now) (sym c.more-test.ensures.found) c.more-test.ensures.left c.in_ok-unit-2.ensures c.more.invariant)

pub units-more-smaller : goal.units-more-smaller
units-more-smaller t c =
    omega (arith, symbol_onward And c.more.cursor (first_place c.more.cursor) c.eat.new.self c.more-test.ensures.left, onward (unit_laws c.args.depth) c.eat.new.self (assertion_of c.in_ok-unit-2.field-0) c.unit-in-more.new.cursor c.in_ok-unit-2.ensures)

pub conjunctions-more-preserved : goal.conjunctions-more-preserved
conjunctions-more-preserved t c =
    let n = c.args.depth in
    rw (c.in_ok-push-2.ensures.items, map_push assertion_of c.more.all.items c.in_ok-conjunction-2.field-0)
    (goes_on_after Or (onward (conjunction_laws n)) (map assertion_of c.more.all.items) c.more.cursor (first_place c.more.cursor, c.eat.new.self) (assertion_of c.in_ok-conjunction-2.field-0) c.conjunction-in-more.new.cursor (conjunctions_by (opens n) c.args.cursor.now) (sym c.more-test.ensures.found) c.more-test.ensures.left c.in_ok-conjunction-2.ensures c.more.invariant)

pub conjunctions-more-smaller : goal.conjunctions-more-smaller
conjunctions-more-smaller t c =
    omega (arith, symbol_onward Or c.more.cursor (first_place c.more.cursor) c.eat.new.self c.more-test.ensures.left, onward (conjunction_laws c.args.depth) c.eat.new.self (assertion_of c.in_ok-conjunction-2.field-0) c.conjunction-in-more.new.cursor c.in_ok-conjunction-2.ensures)
