use Rattle.std.proofs.Common.{sym, ap}
use Rattle.og_parse.specs.Parts.{step_of}
use Rattle.og_parse.specs.TreeOf.{note_of, stmt_of}
use Rattle.og_parse.specs.Reads.{a_stmt, seq_at}
use Rattle.og_parse.proofs.StatementLaws.{step_shortens}
use Rattle.og_parse.proofs.Sequences.{pushed_goes_on}
use Rattle.og_parse.proofs.statements.+statements.Goals as goal

pub sequence-more-preserved : goal.sequence-more-preserved
sequence-more-preserved t c =
    let next = c.in_ok-next-2.next in
    let put = c.in_ok-last-2.ensures in
    pushed_goes_on a_stmt (step_shortens c.args.context.awaits c.args.context.levels c.args.context.depth) c.more.items.items c.with_step-in-more.new.items.items (note_of c.more.last) (note_of c.in_ok-last-2.last) c.more.cursor (step_of next.span (stmt_of next.stmt.value) (note_of next.after)) c.step-in-more.new.cursor (seq_at c.args.context.levels c.args.context.awaits c.args.context.depth c.args.cursor.now)
    put.items (ap note_of put.after) (sym c.more-test.ensures) c.in_ok-next-2.ensures c.more.invariant

pub sequence-more-smaller : goal.sequence-more-smaller
sequence-more-smaller t c =
    let next = c.in_ok-next-2.next in
    (step_shortens c.args.context.awaits c.args.context.levels c.args.context.depth).shortens c.more.cursor (step_of next.span (stmt_of next.stmt.value) (note_of next.after)) c.step-in-more.new.cursor c.in_ok-next-2.ensures
