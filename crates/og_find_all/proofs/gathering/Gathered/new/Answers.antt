use Rattle.std.proofs.Common.{subst, sym}
use Rattle.og_find_all.specs.Findings.{AreOfFirsts}
use Rattle.og_find_all.proofs.gathering.Gathered.new.Goals as goal

pub returns : goal.returns
returns c = λ cs firsts.
    let verdicts = c.args.verdicts.items in
    c.in_ok-known.ensures cs verdicts (subst (λ ls. AreOfFirsts cs ls verdicts) (sym c.deref.ensures.value) firsts)
