use Rattle.og_parse.specs.TreeOf.{note_of}
use Rattle.og_parse.proofs.Sequences.{item_pushed}
use Rattle.og_parse.proofs.statements.with_step.Goals as goal

pub returns-clause-items : goal.returns-clause-items
returns-clause-items t =
    let step = t.args.step in
    item_pushed t.args.items.now.items t.push.new.self.items t.args.before t.into_inner.result step.stmt.value step.span (note_of step.after) t.in_ok-push.ensures.items t.into_inner.ensures
