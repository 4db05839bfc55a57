use Rattle.std.proofs.Common.{◌≡◌, ◌++◌, arith}
use Rattle.std.proofs.lemmas.Result.{IfOk-at_ok}
use Rattle.og_print.specs.Print.{written, note_in}
use Rattle.og_parse.specs.TreeOf.{note_of}
use Rattle.og_print.proofs.PrintSteps.{later_item}
use Rattle.og_print.proofs.statements.+sequences.Goals as goal

pub put_items-loop-i-preserved : goal.put_items-loop-i-preserved
put_items-loop-i-preserved t c =
    let note = IfOk-at_ok (λ _. c.put_note.new.text.items ≡ c.loop-i.text.items ++ note_in written c.args.notes c.args.indent.now (note_of c.index-items-i.result.before)) c.in_ok-put_note.was c.put_note.ensures in
    later_item c.args.notes c.args.indent.now c.args.items.now (note_of c.args.last.now) c.loop-i.i c.index-items-i.result c.ending-ending.result.now c.loop-i.text.items c.put_note.new.text.items c.put_stmt.new.text.items _ (omega arith) c.index-items-i.is c.ending-ending.ensures note c.in_ok-put_stmt.ensures c.loop-i.invariant
