use Rattle.std.proofs.Common.{sym, ◌∷◌, map, true, arith}
use Rattle.std.proofs.lemmas.List.{map_push}
use Rattle.og_text.specs.declared.token.TokenKind.TheVariants.{Parallel}
use Rattle.og_parse.specs.Language.{first_place}
use Rattle.og_parse.proofs.Loops.{goes_on_after, onward, symbol_onward}
use Rattle.og_parse.specs.TreeOf.{seq_of}
use Rattle.og_parse.specs.Reads.{processes_at}
use Rattle.og_parse.proofs.StatementLaws.{seq_laws}
use Rattle.og_parse.proofs.outline.processes.Goals as goal

pub more-preserved : goal.more-preserved
more-preserved c =
    let n = c.args.levels in
    rw (c.in_ok-push.ensures.items, map_push seq_of c.more.others.items c.in_ok-sequence.field-0)
    (goes_on_after Parallel (onward (seq_laws true n)) (seq_of c.in_ok-first.first ∷ map seq_of c.more.others.items) c.more.cursor (first_place c.more.cursor, c.eat.new.self) (seq_of c.in_ok-sequence.field-0) c.sequence-in-more.new.cursor (processes_at n c.args.cursor.now) (sym c.more-test.ensures.found) c.more-test.ensures.left c.in_ok-sequence.ensures c.more.invariant)

pub more-smaller : goal.more-smaller
more-smaller c =
    omega (arith, symbol_onward Parallel c.more.cursor (first_place c.more.cursor) c.eat.new.self c.more-test.ensures.left, onward (seq_laws true c.args.levels) c.eat.new.self (seq_of c.in_ok-sequence.field-0) c.sequence-in-more.new.cursor c.in_ok-sequence.ensures)
