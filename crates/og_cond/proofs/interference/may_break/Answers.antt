use Rattle.og_typed.specs.Plain.{formula}
use Rattle.og_subst.specs.Actions.{action_body}
use Rattle.og_cond.specs.Sets.{has}
use Rattle.og_cond.proofs.Crosses.{met}
use Rattle.og_cond.proofs.interference.may_break.Goals as goal

pub returns : goal.returns
returns c =
    let action = c.args.action.now in
    let watched = c.args.watched.now in
    met (has action.assigned) (has watched.variables) (action_body action.action) (formula watched.note.now.assertion) _ action.exact watched.exact c.meets.ensures
