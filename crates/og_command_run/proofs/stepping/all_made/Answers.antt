use Rattle.og_command_run.proofs.Answering.{all_made}
use Rattle.og_command_run.proofs.stepping.all_made.Goals as goal

pub returns : goal.returns
returns c =
    all_made c.args.source.now.bytes c.args.board.given c.args.outline.now c.args.values.now c.args.board.history c.deref.result.now c.in_ok-outcome.outcome _
    c.requires.outline c.requires.values c.deref.ensures.value c.in_ok-outcome.ensures.outcome c.in_ok-outcome.ensures.history c.in_ok-note.ensures
    (c.in_ok-text.ensures, c.finish_status-status.ensures)
