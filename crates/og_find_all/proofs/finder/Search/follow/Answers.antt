use Rattle.std.proofs.Common.{map, subst}
use Rattle.og_cond.specs.Seen.{seen}
use Rattle.og_find_all.specs.Findings.{AreTried}
use Rattle.og_find_all.proofs.finder.Search.follow.Goals as goal

pub returns-clause-gathered : goal.returns-clause-gathered
returns-clause-gathered g c =
    let cs = map seen c.args.self.now.conditions.now in
    let own = c.in_ok-own.own.items in
    let tried = subst (λ vs. AreTried cs vs c.args.followers.now own) c.deref-2.ensures.value c.in_ok-own.ensures.answers.1 in
    c.in_ok-follow.ensures cs tried
