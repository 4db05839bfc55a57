use Rattle.std.proofs.Common.{Option, get_or, sym, subst}
use Rattle.std.proofs.lemmas.Option.{slice_get-get_or}
use Rattle.og_cond.specs.declared.condition.Condition.{Condition}
use Rattle.og_subst.specs.declared.action.Action.{Action}
use Rattle.og_facts.specs.Answer.{IsPrepared}
use Rattle.og_pool.proofs.checks.Checks.facts.Goals as goal

pub returns-clause-keeps : goal.returns-clause-keeps
returns-clause-keeps g c =
    let its : Condition = get_or c.args.self.now.conditions.now c.args.index c.index-self-index.result in (
      its,
      slice_get-get_or c.args.self.now.conditions.now c.args.index c.index-self-index.result c.requires.within,
      subst (λ (a : Option Action). IsPrepared a c.in-Ok.map) (sym c.in-Some.is) (c.in-Ok.ensures.map, c.in-Ok.ensures.values),
    )
