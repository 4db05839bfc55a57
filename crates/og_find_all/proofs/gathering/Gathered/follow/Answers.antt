use Rattle.std.proofs.Common.{subst, sym}
use Rattle.og_find_all.specs.Findings.{AreTried}
use Rattle.og_find_all.proofs.gathering.Gathered.follow.Goals as goal

pub returns : goal.returns
returns c = λ cs tried known.
    let verdicts = c.args.self.now.verdicts.items in
    let noted = c.note_led.ensures cs verdicts (subst (λ own. AreTried cs verdicts c.args.followers.now own) (sym c.deref.ensures.value) tried) known in
    c.in_ok-add_all.ensures cs verdicts tried noted
